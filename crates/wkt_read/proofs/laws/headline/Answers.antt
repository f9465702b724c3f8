-- The parts of the main statement, each by its law.
use Rattle.wkt_read.proofs.laws.headline.Goals as goal

pub returns : goal.returns
returns g c = record {
  one_front = c.one_front.ensures;
  stable = λ text other v end f ends. (c.stable_front.ensures text other v end f ends).0;
  writable = λ text v end front. let (well, sound, lawful) = c.front_is_writable.ensures text v end front in (sound, lawful);
  reads_back = c.reads_back.ensures;
  one_text = c.one_text.ensures;
  canon_once = c.canon_once.ensures;
}
