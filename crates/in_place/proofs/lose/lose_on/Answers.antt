-- `in_place::lose::lose_on` meets its contract. Assumes nothing.
use Rattle.std.specs.Prelude.{◌≡◌, Err, Ok}
use Rattle.laws.specs.Basics.{refl, sym, ◌∙◌, true, List, ℕ, suc, arith, rules}
use Prim.{tt}
use Rattle.model.specs.{declared.Refusal.Refusal, Sound.sound}
use Rattle.model.specs.Shapes.{LoseAnswer}
use Rattle.whole_runs.specs.Outcomes.{lose_outcome}
use Rattle.words.specs.{Layout.run_of, messages.Places.place_of, messages.Places.taken_out}
use Rattle.in_place.specs.Left.{Leaves}
use Rattle.words.proofs.ViewSound.{sound_words}
use Rattle.in_place.proofs.{Leaving.same_words}
use Rattle.in_place.proofs.Losing.{nothing, there, lose_refused, lose_accepted, place_in, one_there, taken_leaves}
use Rattle.in_place.proofs.lose.lose_on.Goals as goal

-- What the words then are, put together.
accepted : (w : List ℕ) (h : sound (run_of w) ≡ true) (m k : ℕ) → place_of w m ≡ suc k → (v : List ℕ) → v ≡ taken_out w k
    → (run_of v ≡ (lose_outcome (run_of w) m).run) × ((Ok tt ≡ (lose_outcome (run_of w) m).answer) × (((why : Refusal) → ◌≡◌ {A = LoseAnswer} (Ok tt) (Err why) → v ≡ w) × Leaves w v))
accepted w h m k e v q = rw (q, lose_accepted w h m k e) (refl, (refl, (λ why z. absurd (let y : ◌≡◌ {A = ℕ} 0 1 = cc in omega arith), taken_leaves w h m k e)))

pub place_of-found-requires : goal.place_of-found-requires
place_of-found-requires c =
    let h = sound_words c.args.w.now c.requires in (h.size, h.end)

pub take_out-requires : goal.take_out-requires
take_out-requires c =
    let h = sound_words c.args.w.now c.requires in let e = there (place_of c.args.w.now c.args.m) _ (sym c.in-Some.is ∙ c.place_of-found.ensures) in (h.size, h.end, omega (arith, place_in c.args.w.now c.requires c.args.m _ e, h.end), one_there c.args.w.now c.requires c.args.m _ e)

pub returns-in-None : goal.returns-in-None
returns-in-None c =
    let e = nothing (place_of c.args.w.now c.args.m) (sym c.in-None.is ∙ c.place_of-found.ensures) in rw (lose_refused c.args.w.now c.requires c.args.m e) (record { w_after = refl; value = refl; w_unchanged = λ why q. refl; leaves = same_words c.args.w.now })

pub shape_of-w-in-Some : goal.shape_of-w-in-Some
shape_of-w-in-Some c =
    c.take_out.auto.w

pub returns-in-Some : goal.returns-in-Some
returns-in-Some c =
    let e = there (place_of c.args.w.now c.args.m) _ (sym c.in-Some.is ∙ c.place_of-found.ensures) in let z = accepted c.args.w.now c.requires c.args.m _ e _ c.take_out.ensures in record { w_after = z.0; value = z.1.0; w_unchanged = z.1.1.0; leaves = z.1.1.1 }
