-- A state that is not sound is refused with 2 by every call, before any other number: the state, the answer and the lent lists then.
-- Assumes nothing.
use Rattle.std.specs.Prelude.{◌≡◌, Err}
use Rattle.laws.specs.Basics.{refl, sym, ◌∙◌, Bool, true, false, not, List, ℕ, not-true, not-false}
use Rattle.model.specs.{declared.Named.Named, declared.Run.Run, declared.Refusal.TheVariants.UnsoundState, Sound.sound}
use Rattle.model.specs.Refusals.{first_of, checkpoint_refusal, send_refusal, deliver_refusal, lose_refusal, line_refusal, recover_refusal}
use Rattle.whole_runs.specs.Earliest.{earliest_refusal, earliest_outcome}
use Rattle.whole_runs.specs.Outcomes.{checkpoint_outcome, send_outcome, deliver_outcome, lose_outcome, line_outcome, recover_outcome}

-- What a test of soundness and the branch that was taken say of the state.
pub is_unsound : (s : Run) {judged : Bool} → judged ≡ sound s → not judged ≡ true → sound s ≡ false
is_unsound s e t = sym e ∙ not-true _ t

pub is_sound : (s : Run) {judged : Bool} → judged ≡ sound s → not judged ≡ false → sound s ≡ true
is_sound s e t = sym e ∙ not-false _ t

module _ (s : Run) (h : sound s ≡ false) where
  pub checkpoint_unsound : (i : ℕ) (deleted : List ℕ) → (s ≡ (checkpoint_outcome s i deleted).run)
      × ((Err UnsoundState ≡ (checkpoint_outcome s i deleted).answer) × (deleted ≡ (checkpoint_outcome s i deleted).deleted))
  unfolding checkpoint_outcome checkpoint_refusal first_of
  checkpoint_unsound i deleted = rw h (refl, (refl, refl))

  pub send_unsound : (i j : ℕ) → (s ≡ (send_outcome s i j).run) × (Err UnsoundState ≡ (send_outcome s i j).answer)
  unfolding send_outcome send_refusal first_of
  send_unsound i j = rw h (refl, refl)

  pub deliver_unsound : (m : ℕ) (deleted : List ℕ) → (s ≡ (deliver_outcome s m deleted).run)
      × ((Err UnsoundState ≡ (deliver_outcome s m deleted).answer) × ((0 ≡ (deliver_outcome s m deleted).rose) × (deleted ≡ (deliver_outcome s m deleted).deleted)))
  unfolding deliver_outcome deliver_refusal first_of
  deliver_unsound m deleted = rw h (refl, (refl, (refl, refl)))

  pub lose_unsound : (m : ℕ) → (s ≡ (lose_outcome s m).run) × (Err UnsoundState ≡ (lose_outcome s m).answer)
  unfolding lose_outcome lose_refusal first_of
  lose_unsound m = rw h (refl, refl)

  pub line_unsound : (F : ℕ) (lent : List ℕ) → (s ≡ (line_outcome s F lent).run)
      × ((Err UnsoundState ≡ (line_outcome s F lent).answer) × (lent ≡ (line_outcome s F lent).line))
  unfolding line_outcome line_refusal first_of
  line_unsound F lent = rw h (refl, (refl, refl))

  pub recover_unsound : (F : ℕ) (deleted lent : List ℕ) → (s ≡ (recover_outcome s F deleted lent).run)
      × ((Err UnsoundState ≡ (recover_outcome s F deleted lent).answer)
      × ((deleted ≡ (recover_outcome s F deleted lent).deleted) × (lent ≡ (recover_outcome s F deleted lent).line)))
  unfolding recover_outcome recover_refusal first_of
  recover_unsound F deleted lent = rw h (refl, (refl, (refl, refl)))

  pub earliest_unsound : (l : List Named) (lent : List ℕ) → (s ≡ (earliest_outcome s l lent).run)
      × ((Err UnsoundState ≡ (earliest_outcome s l lent).answer) × (lent ≡ (earliest_outcome s l lent).line))
  unfolding earliest_outcome earliest_refusal first_of
  earliest_unsound l lent = rw h (refl, (refl, refl))
