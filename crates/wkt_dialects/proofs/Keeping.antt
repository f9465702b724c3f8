-- What is read without a dialect is read as itself in each.
use Rattle.std.proofs.Common.{◌≡◌, ◌⊎◌, inl, inr, ℕ, List, subst, ◌∙◌}
use Rattle.wkt_read.specs.Explained.{HasFront}
use Rattle.wkt_read.specs.Front.{HasNoFront}
use Rattle.wkt_dialects.specs.Dialects.{IsRest}
use Rattle.wkt_dialects.specs.Reading.{read_plain, IsRestAs}
use Rattle.wkt_dialects.specs.Laws.{DialectsKeep}
use Rattle.wkt_dialects.proofs.FrontSrid.{no-srid}

pub dialects-keep : DialectsKeep
dialects-keep d places text other front r = split r.split_off r.is
  where
    never : HasNoFront (read_plain places) text → ⊥
    never h = h front.0 front.1 front.2

    itself : (rest : List ℕ) → rest ≡ text → (HasFront (read_plain places) rest × (other ≡ rest)) ⊎ (HasNoFront (read_plain places) rest × IsRestAs d rest other) → other ≡ text
    itself rest e (inl h) = h.1 ∙ e
    itself rest e (inr h) = absurd (never (subst (HasNoFront (read_plain places)) e h.0))

    split : IsRest d text r.rest → (HasFront (read_plain places) r.rest × (other ≡ r.rest)) ⊎ (HasNoFront (read_plain places) r.rest × IsRestAs d r.rest other) → other ≡ text
    split (inl (asked, (srid, h))) is = absurd (no-srid (read_plain places) text r.rest front.0 front.1 srid front.2 h)
    split (inr (e, none)) is = itself r.rest e is
