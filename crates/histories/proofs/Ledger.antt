-- The ledger of a run changes nothing else: the invariant and what is kept are the same whatever it says.
use Rattle.std.specs.Prelude.{◌≡◌}
use Rattle.laws.specs.Basics.{refl, ℕ}
use Rattle.histories.proofs.{Run.Ideal, Run.Ledger, Run.with_ledger, Run.keeps, Invariant.Inv}

module _ (r : Ideal) (l : Ledger) where
  pub ledger_keeps : (p k : ℕ) → keeps (with_ledger r l) p k ≡ keeps r p k
  unfolding keeps
  ledger_keeps p k = refl

  pub ledger_inv : Inv r → Inv (with_ledger r l)
  ledger_inv v = record {
    counted = v.counted;
    positive = v.positive;
    self = v.self;
    blank = v.blank;
    rises = v.rises;
    present = v.present;
    knows = v.knows;
    proper = λ p g x s. let w = v.proper p g x s in (w.0, record { numbered = w.1.numbered; used = w.1.used; from = w.1.from; to = w.1.to; apart = w.1.apart });
    carries = v.carries;
    arrived = v.arrived;
    single = v.single;
    takes = v.takes;
    underway = v.underway;
    pending = v.pending;
    marked = v.marked;
    known = v.known;
    source = v.source;
    learnt = v.learnt;
    pinned = v.pinned;
    pins = λ p f k hf e. let w = v.pins p f k hf e in record { below = w.below; less = w.less; next = w.next };
  }
