-- `words_process::steps::advanced` meets its contract. Assumes nothing.
use Rattle.std.specs.Prelude.{◌≡◌, ◌+◌, ◌-◌, ◌≤◌, ◌<◌}
use Rattle.laws.specs.Basics.{refl, sym, ◌∙◌, ap, List, ℕ, arith, eqb, length, set, length-set, get_or-set_same, get_or-set_other, rules, eq-eqb, ne_eqb, eqb-true, pick, by_eq}
use Rattle.laws.specs.{Loops.set_below, Loops.below_none, Loops.below_all, Loops.step_set, Lists.table, Tables.table_is}
use Rattle.model.specs.declared.Interval.{Interval}
use Rattle.model.specs.{Words.entry, Steps.advanced}
use Rattle.words_process.proofs.steps.advanced.Goals as goal

-- What an iteration writes.
abbrev entry_of : List Interval → ℕ → ℕ → Interval
entry_of v i k = record { 0 = pick (eqb k i) ((entry v k).0 + 1) (entry v k).0 }

advanced_is : (v : List Interval) (i : ℕ) → length v ≡ 16 → i < 16 → table 16 (entry_of v i) ≡ advanced i v
unfolding advanced
advanced_is v i long lt = sym (table_is (record { 0 = 0 }) (set v i (record { 0 = (entry v i).0 + 1 })) 16 (entry_of v i) (length-set v i (record { 0 = (entry v i).0 + 1 }) ∙ long)
    (λ k less. by_eq k i
    (λ e. rw (e, eq-eqb i i refl) (get_or-set_same v i (record { 0 = (entry v i).0 + 1 }) (record { 0 = 0 }) (omega arith)))
    (λ ne. rw (ne_eqb k i ne) (get_or-set_other v i k (record { 0 = (entry v i).0 + 1 }) (record { 0 = 0 }) ne))))

pub loop-f-init : goal.loop-f-init
loop-f-init c =
    (search rules, below_none _ _)

pub entry_then-entry-requires : goal.entry_then-entry-requires
entry_then-entry-requires c =
    λ e. let same : c.loop-f.f ≡ c.args.i = eqb-true c.loop-f.f c.args.i e in rw same c.requires.1

pub loop-f-preserved : goal.loop-f-preserved
loop-f-preserved c =
    let l = c.loop-f in let a = c.args in (search rules, step_set (entry_of a.v a.i) a.v _ _ l.invariant.1 _ (ap (λ (n : ℕ). record { 0 = n }) c.entry_then-entry.ensures))

pub returns : goal.returns
returns c =
    let l = c.loop-f in let a = c.args in let e : l.f ≡ 16 = omega arith in
    let long : length a.v ≡ 16 = search rules in
    rw e at l.invariant.1 ∙ below_all (entry_of a.v a.i) a.v 16 long ∙ advanced_is a.v a.i long c.requires.0
