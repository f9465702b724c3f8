-- What was looked at is taken, and what the action makes of it is made.
use Rattle.std.proofs.Common.{subst}
use Rattle.wkt_machine.specs.Steps.{IsMadeOf}
use Rattle.wkt_machine.specs.View.{sight}
use Rattle.wkt_machine.specs.declared.step.Action.TheVariants as act
use Rattle.wkt_machine.proofs.RoomForRest.{leaves_none, leaves_both}
use Rattle.wkt_machine.proofs.StepsJoin.{skip_applies, number_if, bare_if, last_applies}
use Rattle.wkt_machine.specs.Room.{header_cost}
use Rattle.wkt_machine.proofs.lexeme.apply.Goals as goal

pub returns-in-Nothing-clause-applies : goal.returns-in-Nothing-clause-applies
returns-in-Nothing-clause-applies g c =
    skip_applies (g.B.Builder.maker.reads c.args.builder) g.S.Source.view g.B.Builder.maker c.args.action act.Nothing c.in-Nothing.is c.args.source c.args.builder c.requires c.skip.result c.args.builder (subst (λ a. IsMadeOf a (sight (g.S.Source.view.remaining c.args.source))) c.in-Nothing.is c.requires.of).1 c.skip.ensures
    (g.B.Builder.maker.none c.args.builder) (leaves_none g.S.Source.view g.B.Builder.maker c.args.builder)

pub returns-in-Header-clause-applies : goal.returns-in-Header-clause-applies
returns-in-Header-clause-applies g c =
    skip_applies (g.B.Builder.maker.reads c.args.builder) g.S.Source.view g.B.Builder.maker c.args.action (act.Header c.in-Header.part c.in-Header.dim) c.in-Header.is c.args.source c.args.builder c.requires c.skip-in-Header.result c.begin.result (subst (λ a. IsMadeOf a (sight (g.S.Source.view.remaining c.args.source))) c.in-Header.is c.requires.of).1 c.skip-in-Header.ensures
    c.begin.ensures.makes c.begin.ensures.leaves

pub returns-in-HeaderOpen-clause-applies : goal.returns-in-HeaderOpen-clause-applies
returns-in-HeaderOpen-clause-applies g c =
    skip_applies (g.B.Builder.maker.reads c.args.builder) g.S.Source.view g.B.Builder.maker c.args.action (act.HeaderOpen c.in-HeaderOpen.part) c.in-HeaderOpen.is c.args.source c.args.builder c.requires c.skip-in-HeaderOpen.result c.open.result (subst (λ a. IsMadeOf a (sight (g.S.Source.view.remaining c.args.source))) c.in-HeaderOpen.is c.requires.of).1 c.skip-in-HeaderOpen.ensures
    (g.B.Builder.maker.more _ _ _ _ _ c.begin-in-HeaderOpen.ensures.makes c.open.ensures.makes) (leaves_both g.S.Source.view g.B.Builder.maker (header_cost c.in-HeaderOpen.part) 1 c.args.builder c.begin-in-HeaderOpen.result c.open.result c.begin-in-HeaderOpen.ensures.leaves c.open.ensures.leaves)

pub returns-in-HeaderEmpty-clause-applies : goal.returns-in-HeaderEmpty-clause-applies
returns-in-HeaderEmpty-clause-applies g c =
    skip_applies (g.B.Builder.maker.reads c.args.builder) g.S.Source.view g.B.Builder.maker c.args.action (act.HeaderEmpty c.in-HeaderEmpty.part) c.in-HeaderEmpty.is c.args.source c.args.builder c.requires c.skip-in-HeaderEmpty.result c.empty.result (subst (λ a. IsMadeOf a (sight (g.S.Source.view.remaining c.args.source))) c.in-HeaderEmpty.is c.requires.of).1 c.skip-in-HeaderEmpty.ensures
    (g.B.Builder.maker.more _ _ _ _ _ c.begin-in-HeaderEmpty.ensures.makes c.empty.ensures.makes) (leaves_both g.S.Source.view g.B.Builder.maker (header_cost c.in-HeaderEmpty.part) 6 c.args.builder c.begin-in-HeaderEmpty.result c.empty.result c.begin-in-HeaderEmpty.ensures.leaves c.empty.ensures.leaves)

pub returns-in-Open-clause-applies : goal.returns-in-Open-clause-applies
returns-in-Open-clause-applies g c =
    skip_applies (g.B.Builder.maker.reads c.args.builder) g.S.Source.view g.B.Builder.maker c.args.action (act.Open c.in-Open.part) c.in-Open.is c.args.source c.args.builder c.requires c.skip-in-Open.result c.open-in-Open.result (subst (λ a. IsMadeOf a (sight (g.S.Source.view.remaining c.args.source))) c.in-Open.is c.requires.of).1 c.skip-in-Open.ensures
    c.open-in-Open.ensures.makes c.open-in-Open.ensures.leaves

pub returns-in-Comma-clause-applies : goal.returns-in-Comma-clause-applies
returns-in-Comma-clause-applies g c =
    skip_applies (g.B.Builder.maker.reads c.args.builder) g.S.Source.view g.B.Builder.maker c.args.action (act.Comma c.in-Comma.part) c.in-Comma.is c.args.source c.args.builder c.requires c.skip-in-Comma.result c.comma.result (subst (λ a. IsMadeOf a (sight (g.S.Source.view.remaining c.args.source))) c.in-Comma.is c.requires.of).1 c.skip-in-Comma.ensures
    c.comma.ensures.makes c.comma.ensures.leaves

pub returns-in-Close-clause-applies : goal.returns-in-Close-clause-applies
returns-in-Close-clause-applies g c =
    skip_applies (g.B.Builder.maker.reads c.args.builder) g.S.Source.view g.B.Builder.maker c.args.action (act.Close c.in-Close.part) c.in-Close.is c.args.source c.args.builder c.requires c.skip-in-Close.result c.close.result (subst (λ a. IsMadeOf a (sight (g.S.Source.view.remaining c.args.source))) c.in-Close.is c.requires.of).1 c.skip-in-Close.ensures
    c.close.ensures.makes c.close.ensures.leaves

pub returns-in-Empty-clause-applies : goal.returns-in-Empty-clause-applies
returns-in-Empty-clause-applies g c =
    skip_applies (g.B.Builder.maker.reads c.args.builder) g.S.Source.view g.B.Builder.maker c.args.action (act.Empty c.in-Empty.part) c.in-Empty.is c.args.source c.args.builder c.requires c.skip-in-Empty.result c.empty-in-Empty.result (subst (λ a. IsMadeOf a (sight (g.S.Source.view.remaining c.args.source))) c.in-Empty.is c.requires.of).1 c.skip-in-Empty.ensures
    c.empty-in-Empty.ensures.makes c.empty-in-Empty.ensures.leaves

pub returns-in-Number-clause-applies : goal.returns-in-Number-clause-applies
returns-in-Number-clause-applies g c = number_if (g.B.Builder.maker.reads c.args.builder) g.S.Source.view g.B.Builder.maker c.args.action c.args.source c.args.builder c.requires c.in-Number.axis c.in-Number.is c.number.result c.number.ensures.takes c.number.ensures.leaves

pub returns-in-FirstBare-clause-applies : goal.returns-in-FirstBare-clause-applies
returns-in-FirstBare-clause-applies g c = bare_if (g.B.Builder.maker.reads c.args.builder) g.S.Source.view g.B.Builder.maker c.args.action c.args.source c.args.builder c.requires c.in-FirstBare.is c.bare.result c.bare.ensures.takes c.bare.ensures.room

pub returns-in_ok-behind-in-LastBare-clause-applies : goal.returns-in_ok-behind-in-LastBare-clause-applies
returns-in_ok-behind-in-LastBare-clause-applies g c =
    last_applies (g.B.Builder.maker.reads c.args.builder) g.S.Source.view g.B.Builder.maker c.args.action c.args.source c.args.builder c.requires c.in-LastBare.axis c.in-LastBare.is c.in_ok-behind-in-LastBare.behind c.in_ok-behind-in-LastBare.made c.close-in-LastBare.result c.in_ok-behind-in-LastBare.ensures.takes c.in_ok-behind-in-LastBare.ensures.leaves c.close-in-LastBare.ensures.makes
    c.close-in-LastBare.ensures.leaves
