-- What is answered to the arrays.
use Rattle.wkt_c.proofs.exports.wkt_from_arrays.Goals as goal

pub returns-clause-written : goal.returns-clause-written
returns-clause-written c = c.copy_out_text_at.ensures.written

pub returns-clause-small : goal.returns-clause-small
returns-clause-small c = c.copy_out_text_at.ensures.small

pub returns-clause-others : goal.returns-clause-others
returns-clause-others c = c.copy_out_text_at.ensures.others

pub returns-clause-kept : goal.returns-clause-kept
returns-clause-kept c = c.copy_out_text_at.ensures.kept

pub returns-clause-needed_kept : goal.returns-clause-needed_kept
returns-clause-needed_kept c = c.copy_out_text_at.ensures.needed_kept

pub returns-clause-memory : goal.returns-clause-memory
returns-clause-memory c = c.copy_out_text_at.ensures.memory
