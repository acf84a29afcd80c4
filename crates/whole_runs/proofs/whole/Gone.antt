-- The pairs in the deletion list of an accepted call: the checkpoints kept before and not after, by process, then index, each once, the rest as lent.
-- Assumes nothing.
use Rattle.std.specs.Prelude.{◌≡◌, ◌&&◌, ◌∷◌, ◌++◌, ◌*◌, ◌≤◌, ◌<◌}
use Rattle.laws.specs.Basics.{refl, sym, ◌∙◌, ap, Bool, true, false, not, List, [], append-nil, ℕ, zero, suc, arith, length, pick, by_bool, by_eq}
use Rattle.laws.specs.{Front.written_front, Lists.gather, Select.map_append, Tables.gather_same}
use Rattle.model.specs.Words.{most_processes, basic, forced, failed}
use Rattle.model.specs.Steps.{Deletion, listed, checkpoint_deletions, deliver_deletions, recover_deletions}
use Rattle.whole_runs.specs.{Outcomes.pairs, Calls.Reply, Survival.Surviving, Answers.at_front, Answers.gone_pairs}
use Rattle.histories.proofs.{Run.Ideal, Run.keeps, Run.checkpointed, Run.delivered, Run.recovered, Invariant.Inv}
use Rattle.histories.proofs.CheckpointedViews.{checkpointed_n, checkpointed_pin_row}
use Rattle.model.proofs.{simulation.View.passing, simulation.View.checkpoint_of, simulation.View.message_of, simulation.View.state_of, simulation.Rows.keeps_same}
use Rattle.model.proofs.{simulation.Checkpoint.checkpoint_deletions_lem, simulation.Deliver.deliver_deletions_lem, simulation.Deliver.deliver_keeps_other}
use Rattle.model.proofs.{simulation.Recover.recover_deletions_lem, simulation.Kept.kept_most}
use Rattle.whole_runs.proofs.{whole.Pairs.length_pairs, whole.Agreement.Agrees, whole.Agreement.live_is}
use Rattle.whole_runs.proofs.whole.Handed.{Answers, gone, listed_length, gather_length, room_one}

-- Lists in a row of which all are empty, or all but one.
gather_none : {A : Type 0} (n : ℕ) (f : ℕ → List A) → ((k : ℕ) → k < n → f k ≡ []) → gather n f ≡ []
unfolding gather
gather_none zero f h = refl
gather_none (suc n) f h = rw (h n (omega arith), gather_none n f (λ k lt. h k (omega arith)))

gather_only : {A : Type 0} (n i : ℕ) (f : ℕ → List A) → i < n → ((k : ℕ) → k < n → (k ≡ i → ⊥) → f k ≡ []) → gather n f ≡ f i
unfolding gather
gather_only zero i f lt h = absurd (omega arith)
gather_only (suc n) i f lt h = by_eq n i
    (λ e. rw (gather_none n f (λ k less. h k (omega arith) (omega arith))) (ap f e))
    (λ ne. rw (h n (omega arith) ne) (append-nil (gather n f) ∙ gather_only n i f (omega arith) (λ k less. h k (omega arith))))

-- The numbers of the pairs, of lists in a row.
pub pairs_append : (a b : List Deletion) → pairs (a ++ b) ≡ pairs a ++ pairs b
unfolding pairs
pairs_append [] b = refl
pairs_append (d ∷ a) b = rw (pairs_append a b)

pub pairs_gather : (n : ℕ) (f : ℕ → List Deletion) → pairs (gather n f) ≡ gather n (λ p. pairs (f p))
unfolding gather pairs
pairs_gather zero f = refl
pairs_gather (suc n) f = rw (pairs_append (gather n f) (f n), pairs_gather n f)

-- The numbers p, k of the checkpoints k that pass a test.
abbrev pub pair_if : ℕ → (ℕ → Bool) → ℕ → List ℕ
pair_if p t k = pick (t k) (p ∷ k ∷ []) []

pub listed_pairs : (r : Ideal) (p m : ℕ) (t : ℕ → Bool) → pairs (listed p (passing m t (checkpoint_of r p))) ≡ gather m (pair_if p t)
unfolding listed passing gather pairs checkpoint_of
listed_pairs r p zero t = refl
listed_pairs r p (suc m) t = by_bool (t m)
    (λ e. rw (
      e,
      map_append {B = Deletion} (λ c. record { process = p; index = c.index }) (passing m t (checkpoint_of r p)) (checkpoint_of r p m ∷ []),
      pairs_append (listed p (passing m t (checkpoint_of r p))) (record { process = p; index = record { 0 = m } } ∷ []),
      listed_pairs r p m t,
    ))
    (λ e. rw (e, append-nil (passing m t (checkpoint_of r p)), listed_pairs r p m t) (sym (append-nil (gather m (pair_if p t)))))

-- What a step from r to r' hands out.
unfoldable pub gone_part : Ideal → Ideal → ℕ → List ℕ
gone_part r r' p = gather (r.own p) (pair_if p (λ k. keeps r p k && not (keeps r' p k)))

unfoldable pub gone_all : Ideal → Ideal → List ℕ
gone_all r r' = gather r.n (gone_part r r')

-- A reply that hands out exactly that, in a lent list.
pub record HandsOver (a : Reply) (lent : List ℕ) (r r' : Ideal) : Type 0 where
  pub deleted : a.deleted ≡ at_front (gone_all r r') lent
  pub counted : 2 * a.report.deletions ≡ length (gone_all r r')

-- Nothing is both kept and not kept.
pub no_change : (b : Bool) → (b && not b) ≡ false
no_change true = refl
no_change false = refl

module _ (r r' : Ideal) where
  part_pairs : (p : ℕ) → pairs (gone r r' p) ≡ gone_part r r' p
  unfolding gone_part
  part_pairs p = listed_pairs r p (r.own p) (λ k. keeps r p k && not (keeps r' p k))

  -- A process that keeps what it kept hands out nothing.
  part_none : (p : ℕ) → ((k : ℕ) → keeps r' p k ≡ keeps r p k) → gone_part r r' p ≡ []
  unfolding gone_part
  part_none p same = gather_none (r.own p) (pair_if p (λ k. keeps r p k && not (keeps r' p k))) (λ k lt. rw (same k) (rw (no_change (keeps r p k))))

  one_pairs : (i : ℕ) → i < r.n → ((p k : ℕ) → (p ≡ i → ⊥) → keeps r' p k ≡ keeps r p k) → pairs (gone r r' i) ≡ gone_all r r'
  unfolding gone_all
  one_pairs i hi same = part_pairs i ∙ sym (gather_only r.n i (gone_part r r') hi (λ p hp ne. part_none p (λ k. same p k ne)))

  all_pairs : pairs (gather r.n (gone r r')) ≡ gone_all r r'
  unfolding gone_all
  all_pairs = pairs_gather r.n (gone r r') ∙ gather_same r.n _ _ (λ p hp. part_pairs p)

  -- A reply with deletions whose pairs are those.
  handed_over : (a : Reply) (lent : List ℕ) (ds : List Deletion) → Answers a lent ds → pairs ds ≡ gone_all r r' → 2 * length ds ≤ length lent → HandsOver a lent r r'
  handed_over a lent ds answer same fits = record {
    deleted = rw (← same) (answer.deleted ∙ written_front lent (pairs ds) (omega (arith, length_pairs ds)));
    counted = rw (← same) (omega (arith, answer.counted, length_pairs ds));
  }

  -- A call that is lent no list and keeps all.
  pub nothing_over : (a : Reply) → a.deleted ≡ [] → a.report.deletions ≡ 0 → ((p k : ℕ) → keeps r' p k ≡ keeps r p k) → HandsOver a [] r r'
  nothing_over a none_lent none_counted same = record { deleted = rw empty none_lent; counted = rw (empty, none_counted) }
    where
      empty : gone_all r r' ≡ []
      empty = unfold gone_all in gather_none r.n (gone_part r r') (λ p hp. part_none p (same p))

module _ (r : Ideal) (v : Inv r) (few : r.n ≤ most_processes) (a : Reply) (lent : List ℕ) (room : 2 * r.n * r.n ≤ length lent) where
  fits_one : (r' : Ideal) (i : ℕ) → i < r.n → 2 * length (gone r r' i) ≤ length lent
  fits_one r' i hi = omega (arith, room_one r.n (length (gone r r' i)) (omega arith) (omega (arith, kept_most r i, listed_length r i (λ k. not (keeps r' i k)))))

  pub checkpoint_over : (i : ℕ) → i < r.n → r.ledger.why ≡ basic → Answers a lent (checkpoint_deletions (state_of r) i) → HandsOver a lent r (checkpointed r i)
  checkpoint_over i hi asked answer =
      let e : checkpoint_deletions (state_of r) i ≡ gone r (checkpointed r i) i = checkpoint_deletions_lem r v i few hi asked in
      handed_over r (checkpointed r i) a lent (gone r (checkpointed r i) i) (rw e at answer)
      (one_pairs r (checkpointed r i) i hi (λ p k ne. keeps_same r (checkpointed r i) p k (checkpointed_n r i) (λ f hf. checkpointed_pin_row r i p f ne)))
      (fits_one (checkpointed r i) i hi)

  pub deliver_over : (m : ℕ) → r.receiver m < r.n → r.ledger.why ≡ forced → Answers a lent (deliver_deletions (state_of r) (message_of r m)) → HandsOver a lent r (delivered r m)
  deliver_over m hi asked answer =
      let e : deliver_deletions (state_of r) (message_of r m) ≡ gone r (delivered r m) (r.receiver m) = deliver_deletions_lem r v m few hi asked in
      handed_over r (delivered r m) a lent (gone r (delivered r m) (r.receiver m)) (rw e at answer)
      (one_pairs r (delivered r m) (r.receiver m) hi (deliver_keeps_other r v m few hi asked))
      (fits_one (delivered r m) (r.receiver m) hi)

  pub recover_over : (F : ℕ) → Answers a lent (recover_deletions (state_of r) F) → HandsOver a lent r (recovered r (failed F))
  recover_over F answer =
      let e : recover_deletions (state_of r) F ≡ gather r.n (gone r (recovered r (failed F))) = recover_deletions_lem r v few F in
      let few_pairs : length (gather r.n (gone r (recovered r (failed F)))) ≤ r.n * r.n = gather_length r.n r.n (gone r (recovered r (failed F)))
      (λ q h. omega (arith, kept_most r q, listed_length r q (λ k. not (keeps (recovered r (failed F)) q k)))) in
      handed_over r (recovered r (failed F)) a lent (gather r.n (gone r (recovered r (failed F)))) (rw e at answer)
      (all_pairs r (recovered r (failed F))) (omega arith)

-- The histories before and after name the same pairs.
pub gone_agrees : (h h' : Surviving) (r r' : Ideal) → Inv r → Agrees h r → Agrees h' r' → r'.n ≡ r.n → gone_pairs r.n h h' ≡ gone_all r r'
unfolding gone_pairs gone_all gone_part
gone_agrees h h' r r' v g g' size = gather_same r.n _ _ (λ p hp.
    ap (λ (c : ℕ). gather c (pair_if p (λ k. h.kept p k && not (h'.kept p k)))) (live_is h r v g p)
    ∙ gather_same (r.own p) _ _ (λ k lt. rw (g.kept p k hp, g'.kept p k (rw size hp))))
