-- `words::messages::close_up` meets its contract. Assumes nothing.
use Rattle.std.specs.Prelude.{◌≡◌, ◌∷◌, ◌-◌, ◌≤◌}
use Rattle.laws.specs.Basics.{◌∙◌, ap, List, [], ℕ, arith, length, set, length-set, rules}
use Rattle.words.specs.{Layout.state_size, Puts.puts, Puts.one, messages.Places.closing, messages.Places.cleared_from, messages.Places.closed_up}
use Rattle.words.proofs.{Reading.set_is_put, messages.Closed.closing_closed}
use Rattle.words.proofs.messages.close_up.Goals as goal

closed_by : (w : List ℕ) (k m : ℕ) → k ≡ m → set (cleared_from w k (64 - k)) 12 k ≡ puts (cleared_from w m (64 - m)) (one 12 m ∷ [])
closed_by w k m e = rw e (set_is_put _ _ _)

-- No more than 64 are gathered.
few : (w : List ℕ) (k : ℕ) → length w ≡ state_size → k ≡ (closing w 64).many → k ≤ 64
few w k long e = rw e (closing_closed w long 64 (omega arith)).many

pub clear_from-requires : goal.clear_from-requires
clear_from-requires c =
    let a = c.args in (c.gather-many.auto.w ∙ c.requires, few a.w.now _ c.requires c.gather-many.ensures.1)

pub overflow_cast-w : goal.overflow_cast-w
overflow_cast-w c =
    let small = few c.args.w.now _ c.requires c.gather-many.ensures.1 in omega arith

pub bounds-w-12 : goal.bounds-w-12
bounds-w-12 c =
    omega (arith, c.clear_from.auto.w, c.gather-many.auto.w, c.requires)

pub shape_of-w : goal.shape_of-w
shape_of-w c =
    simp length-set (c.clear_from.auto.w ∙ c.gather-many.auto.w)

pub returns : goal.returns
unfolding closed_up
returns c =
    ap (λ (l : List ℕ). set l 12 c.gather-many.result) (c.clear_from.ensures ∙ ap (λ (l : List ℕ). cleared_from l c.gather-many.result (64 - c.gather-many.result)) c.gather-many.ensures.0)
    ∙ closed_by (closing c.args.w.now 64).words _ _ c.gather-many.ensures.1
