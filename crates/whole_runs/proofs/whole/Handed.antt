-- What checkpoint, deliver and recover hand out on a state that stands for a run: the checkpoints that were kept and are kept no more.
-- And the lent list has room for them where each process keeps at most n.
use Rattle.std.specs.Prelude.{◌≡◌, ◌&&◌, ◌∷◌, ◌++◌, ◌+◌, ◌*◌, ◌≤◌, ◌<◌}
use Rattle.laws.specs.Basics.{refl, sym, ◌∙◌, ap, Bool, false, not, List, [], ℕ, zero, suc, arith, eqb, ltb, length, get_or, length-append, eq-eqb, ne_eqb, eqb-true, lt-ltb, leb-true, by_bool, by_eq}
use native.Mathlib.Nat.{add-mul, le-mul_of_pos_right}
use lib.ListN.{length-map}
use Rattle.laws.specs.{Elements.same_test, Lists.gather, Ranges.any_only, Search.any_in, Search.any_out, Select.some_map, Select.some_gather}
use Rattle.laws.specs.{Sums.sum_below, Sums.sum_same, Tests.count_below, Tests.some_of}
use Rattle.laws.specs.Truth.{never_both, and_left, and_right, and_both, and_no_right}
use Rattle.model.specs.declared.Checkpoint.{Checkpoint}
use Rattle.model.specs.Words.{basic, forced, most_processes, failed}
use Rattle.model.specs.Steps.{Deletion, listed, checkpoint_deletions, deliver_deletions, recover_deletions}
use Rattle.whole_runs.specs.{Outcomes.pairs, Outcomes.written, Calls.Reply, Survival.handed_out_of}
use Rattle.histories.proofs.{Run.Ideal, Run.keeps, Run.checkpointed, Run.delivered, Run.recovered, Invariant.Inv, Line.keeps_below}
use Rattle.histories.proofs.Counted.{gone_in, gone_one}
use Rattle.model.proofs.simulation.View.{passing, checkpoint_of, kept_of, message_of, state_of}
use Rattle.model.proofs.{simulation.Passing.some_passing, simulation.Passing.length_passing, simulation.Kept.kept_most, simulation.Recover.recover_deletions_lem}
use Rattle.model.proofs.simulation.Checkpoint.{checkpoint_deletions_lem, checkpoint_keeps_other}
use Rattle.model.proofs.simulation.Deliver.{deliver_deletions_lem, deliver_keeps_other}
use Rattle.whole_runs.proofs.whole.Pairs.{deletes, handed_out, weigh, handed_weight}

-- Some deletion of a process's checkpoints that pass a test is the one of k: k is below the bound and passes.
pub listed_one : (r : Ideal) (i m : ℕ) (t : ℕ → Bool) (k : ℕ) → some_of (deletes i k) (listed i (passing m t (checkpoint_of r i))) ≡ (ltb k m && t k)
unfolding listed checkpoint_of
listed_one r i m t k =
    some_map (deletes i k) (λ c. record { process = i; index = c.index }) (passing m t (checkpoint_of r i))
    ∙ some_passing (λ c. eqb i i && eqb c.index.0 k) m t (checkpoint_of r i)
    ∙ same_test _ _
    (λ e.
    let w = any_out m (λ j. t j && (eqb i i && eqb j k)) e in
    let q : w.0 ≡ k = eqb-true w.0 k (and_right (eqb i i) (eqb w.0 k) (and_right (t w.0) _ w.2)) in
    and_both (ltb k m) (t k) (lt-ltb k m (rw q at w.1)) (rw q at (and_left (t w.0) _ w.2)))
    (λ e. any_in m _ k (leb-true (suc k) m (and_left (ltb k m) (t k) e)) (rw (and_right (ltb k m) (t k) e, eq-eqb i i refl, eq-eqb k k refl)))

pub listed_other : (r : Ideal) (i p m : ℕ) (t : ℕ → Bool) (k : ℕ) → (i ≡ p → ⊥) → some_of (deletes p k) (listed i (passing m t (checkpoint_of r i))) ≡ false
unfolding listed checkpoint_of
listed_other r i p m t k ne =
    some_map (deletes p k) (λ c. record { process = i; index = c.index }) (passing m t (checkpoint_of r i))
    ∙ some_passing (λ c. eqb i p && eqb c.index.0 k) m t (checkpoint_of r i)
    ∙ same_test _ _
    (λ e. let w = any_out m _ e in never_both (eqb i p) (and_left (eqb i p) _ (and_right (t w.0) _ w.2)) (ne_eqb i p ne))
    (λ e. never_both false e refl)

-- How many there are: no more than pass a wider test.
fewer : (m : ℕ) (t u : ℕ → Bool) → count_below m (λ k. t k && u k) ≤ count_below m t
unfolding count_below
fewer zero t u = omega arith
fewer (suc m) t u = by_bool (t m)
    (λ e. by_bool (u m) (λ d. rw (e, d) (omega (arith, fewer m t u))) (λ d. rw (e, d) (omega (arith, fewer m t u))))
    (λ e. rw e (omega (arith, fewer m t u)))

pub listed_length : (r : Ideal) (i : ℕ) (u : ℕ → Bool) → length (listed i (passing (r.own i) (λ k. keeps r i k && u k) (checkpoint_of r i))) ≤ length (kept_of r i)
unfolding listed kept_of
listed_length r i u = rw (
  length-map {B = Deletion} (passing (r.own i) (λ k. keeps r i k && u k) (checkpoint_of r i)) (λ c. record { process = i; index = c.index }),
  length_passing (r.own i) (λ k. keeps r i k && u k) (checkpoint_of r i),
  length_passing (r.own i) (keeps r i) (checkpoint_of r i),
) (fewer (r.own i) (keeps r i) u)

-- Lists in a row, each of at most b elements.
pub gather_length : {A : Type 0} (n b : ℕ) (f : ℕ → List A) → ((p : ℕ) → p < n → length (f p) ≤ b) → length (gather n f) ≤ n * b
unfolding gather
gather_length zero b f h = omega arith
gather_length (suc n) b f h = rw (length-append (gather n f) (f n)) (omega (arith, gather_length n b f (λ p lt. h p (omega arith)), h n (omega arith)))

-- A lent list of 2 × n × n entries has room for the pairs of one process that keeps at most n, and for those of all.
pub room_one : (n l : ℕ) → 0 < n → l ≤ n → 2 * l ≤ 2 * n * n
room_one n l some few = omega (arith, le-mul_of_pos_right n some)

abbrev pub gone : Ideal → Ideal → ℕ → List Deletion
gone r r' i = listed i (passing (r.own i) (λ k. keeps r i k && not (keeps r' i k)) (checkpoint_of r i))

module _ (r r' : Ideal) (v : Inv r) where
  -- What was kept is a checkpoint of the run.
  gone_below : (p k : ℕ) → (ltb k (r.own p) && (keeps r p k && not (keeps r' p k))) ≡ (keeps r p k && not (keeps r' p k))
  gone_below p k = by_bool (keeps r p k)
      (λ e. rw (e, lt-ltb k (r.own p) (keeps_below r v p k e)))
      (λ e. rw e (and_no_right (ltb k (r.own p)) false refl))

  -- Deletions of one process, where the others keep what they kept.
  pub handed_one : (i : ℕ) → ((p k : ℕ) → (p ≡ i → ⊥) → keeps r' p k ≡ keeps r p k) → (p k : ℕ) → some_of (deletes p k) (gone r r' i) ≡ (keeps r p k && not (keeps r' p k))
  handed_one i same p k = by_eq p i
      (λ e. rw e (listed_one r i (r.own i) (λ k. keeps r i k && not (keeps r' i k)) k ∙ gone_below i k))
      (λ ne. listed_other r i p (r.own i) _ k (λ c. ne (sym c)) ∙ rw (same p k ne) (by_bool (keeps r p k) (λ d. rw d) (λ d. rw d)))

  -- Deletions of all processes.
  pub handed_all : (p k : ℕ) → p < r.n → some_of (deletes p k) (gather r.n (gone r r')) ≡ (keeps r p k && not (keeps r' p k))
  handed_all p k lt =
      some_gather (deletes p k) r.n (gone r r')
      ∙ any_only r.n _ p lt (λ q h ne. listed_other r q p (r.own q) _ k ne)
      ∙ listed_one r p (r.own p) (λ k. keeps r p k && not (keeps r' p k)) k
      ∙ gone_below p k

-- An answer with given deletions.
pub record Answers (reply : Reply) (lent : List ℕ) (ds : List Deletion) : Type 0 where
  pub deleted : reply.deleted ≡ written lent (pairs ds)
  pub counted : reply.report.deletions ≡ length ds

-- The weight of the deletions of one process, and of all.
weigh_append : (c : ℕ → ℕ) (a b : List Deletion) → weigh c (a ++ b) ≡ weigh c a + weigh c b
unfolding weigh
weigh_append c [] b = omega arith
weigh_append c (d ∷ a) b = omega (arith, weigh_append c a b)

weigh_listed : (c : ℕ → ℕ) (p : ℕ) (l : List Checkpoint) → weigh c (listed p l) ≡ length l * c p
unfolding weigh listed
weigh_listed c p [] = omega arith
weigh_listed c p (x ∷ l) = omega (arith, add-mul 1 (length l) (c p), weigh_listed c p l)

weigh_gather : (c : ℕ → ℕ) (n : ℕ) (f : ℕ → List Deletion) → weigh c (gather n f) ≡ sum_below n (λ p. weigh c (f p))
unfolding gather sum_below weigh
weigh_gather c zero f = refl
weigh_gather c (suc n) f = weigh_append c (gather n f) (f n) ∙ ap (λ (x : ℕ). x + weigh c (f n)) (weigh_gather c n f)

weigh_gone : (r r' : Ideal) (p : ℕ) → weigh r.ledger.block_counts (gone r r' p) ≡ count_below (r.own p) (λ k. keeps r p k && not (keeps r' p k)) * r.ledger.block_counts p
weigh_gone r r' p =
    weigh_listed r.ledger.block_counts p (passing (r.own p) (λ k. keeps r p k && not (keeps r' p k)) (checkpoint_of r p))
    ∙ ap (λ (x : ℕ). x * r.ledger.block_counts p) (length_passing (r.own p) (λ k. keeps r p k && not (keeps r' p k)) (checkpoint_of r p))

weigh_all : (r r' : Ideal) → weigh r.ledger.block_counts (gather r.n (gone r r')) ≡ gone_in r r'
unfolding gone_in
weigh_all r r' = weigh_gather r.ledger.block_counts r.n (gone r r') ∙ sum_same r.n _ _ (λ p lt. weigh_gone r r' p)

-- The blocks of the pairs that an answer hands out.
abbrev pub pair_blocks : Ideal → Reply → ℕ
pair_blocks r reply = sum_below reply.report.deletions (λ d. r.ledger.block_counts (get_or reply.deleted (2 * d) 0))

module _ (r : Ideal) (v : Inv r) (few : r.n ≤ most_processes) (reply : Reply) (lent : List ℕ) (room : 2 * r.n * r.n ≤ length lent) where
  module _ (i : ℕ) (hi : i < r.n) (asked : r.ledger.why ≡ basic) (answer : Answers reply lent (checkpoint_deletions (state_of r) i)) where
    these : checkpoint_deletions (state_of r) i ≡ gone r (checkpointed r i) i
    these = checkpoint_deletions_lem r v i few hi asked

    short : 2 * length (gone r (checkpointed r i) i) ≤ length lent
    short = omega (arith, kept_most r i, room_one r.n (length (gone r (checkpointed r i) i)) (omega arith) (omega (arith, kept_most r i, listed_length r i (λ k. not (keeps (checkpointed r i) i k)))))

    pub checkpoint_handed : (p k : ℕ) → handed_out_of reply p k ≡ (keeps r p k && not (keeps (checkpointed r i) p k))
    checkpoint_handed p k =
        handed_out reply lent (gone r (checkpointed r i) i) p k (rw these at answer.deleted) (rw these at answer.counted) short
        ∙ handed_one r (checkpointed r i) v i (checkpoint_keeps_other r v i few hi) p k

    pub checkpoint_blocks : pair_blocks r reply ≡ gone_in r (checkpointed r i)
    checkpoint_blocks =
        handed_weight reply lent (gone r (checkpointed r i) i) r.ledger.block_counts (rw these at answer.deleted) (rw these at answer.counted) short
        ∙ weigh_gone r (checkpointed r i) i
        ∙ sym (gone_one r (checkpointed r i) i hi (checkpoint_keeps_other r v i few hi))

  module _ (m : ℕ) (hi : r.receiver m < r.n) (asked : r.ledger.why ≡ forced) (answer : Answers reply lent (deliver_deletions (state_of r) (message_of r m))) where
    those : deliver_deletions (state_of r) (message_of r m) ≡ gone r (delivered r m) (r.receiver m)
    those = deliver_deletions_lem r v m few hi asked

    room_for : 2 * length (gone r (delivered r m) (r.receiver m)) ≤ length lent
    room_for = omega (
      arith,
      room_one r.n (length (gone r (delivered r m) (r.receiver m))) (omega arith)
          (omega (arith, kept_most r (r.receiver m), listed_length r (r.receiver m) (λ k. not (keeps (delivered r m) (r.receiver m) k)))),
    )

    pub deliver_handed : (p k : ℕ) → handed_out_of reply p k ≡ (keeps r p k && not (keeps (delivered r m) p k))
    deliver_handed p k =
        handed_out reply lent (gone r (delivered r m) (r.receiver m)) p k (rw those at answer.deleted) (rw those at answer.counted) room_for
        ∙ handed_one r (delivered r m) v (r.receiver m) (deliver_keeps_other r v m few hi asked) p k

    pub deliver_blocks : pair_blocks r reply ≡ gone_in r (delivered r m)
    deliver_blocks =
        handed_weight reply lent (gone r (delivered r m) (r.receiver m)) r.ledger.block_counts (rw those at answer.deleted) (rw those at answer.counted) room_for
        ∙ weigh_gone r (delivered r m) (r.receiver m)
        ∙ sym (gone_one r (delivered r m) (r.receiver m) hi (deliver_keeps_other r v m few hi asked))

  module _ (F : ℕ) (answer : Answers reply lent (recover_deletions (state_of r) F)) where
    all_these : recover_deletions (state_of r) F ≡ gather r.n (gone r (recovered r (failed F)))
    all_these = recover_deletions_lem r v few F

    room_all : 2 * length (gather r.n (gone r (recovered r (failed F)))) ≤ length lent
    room_all =
        let few_pairs : length (gather r.n (gone r (recovered r (failed F)))) ≤ r.n * r.n = gather_length r.n r.n (gone r (recovered r (failed F)))
        (λ q h. omega (arith, kept_most r q, listed_length r q (λ k. not (keeps (recovered r (failed F)) q k)))) in
        omega arith

    pub recover_handed : (p k : ℕ) → p < r.n → handed_out_of reply p k ≡ (keeps r p k && not (keeps (recovered r (failed F)) p k))
    recover_handed p k lt =
        handed_out reply lent (gather r.n (gone r (recovered r (failed F)))) p k (rw all_these at answer.deleted) (rw all_these at answer.counted) room_all
        ∙ handed_all r (recovered r (failed F)) v p k lt

    pub recover_blocks : pair_blocks r reply ≡ gone_in r (recovered r (failed F))
    recover_blocks =
        handed_weight reply lent (gather r.n (gone r (recovered r (failed F)))) r.ledger.block_counts (rw all_these at answer.deleted) (rw all_these at answer.counted) room_all
        ∙ weigh_all r (recovered r (failed F))
