-- 16 is real: two runs that differ in what another process stored, of which one leaves the tenant's checkpoint no room within the bound of blocks.
-- Assumes nothing.
use Rattle.std.specs.Prelude.{◌≡◌, ◌∷◌, ◌++◌, ◌+◌, ◌≤◌, ◌<◌, Ok}
use Rattle.laws.specs.Basics.{refl, sym, ◌∙◌, ap, subst, false, not, List, [], map, Option, None, Some, ℕ, zero, suc, arith, eqb, ltb, replicate, lt-ltb, lt-leb, by_bool}
use Rattle.laws.specs.{Lists.last_of, Search.any_below, Select.map_append, Select.last_of_snoc, Sums.sum_below, Truth.and_no_right}
use Prim.{tt}
use Rattle.model.specs.declared.{Refusal.Refusal, Refusal.TheVariants.BlocksUsed, Run.Run}
use Rattle.model.specs.{Words.most_interval, Words.most_blocks, Words.block_count, Words.process, Words.own, Words.in_set, Sound.is_block_count_of}
use Rattle.model.specs.{Refusals.number, Refusals.first_of, Refusals.start_refusal, Refusals.checkpoint_refusal, laws.Refusals.refusal_in}
use Rattle.histories.proofs.{Run.Ideal, Run.begin, Run.open_ledger, Run.begun, Begin.begin_own, Begin.begin_mark, Begin.begin_transit, Invariant.Inv}
use Rattle.model.proofs.{simulation.View.state_of, simulation.View.Limits, simulation.Reads.count_is_lem, simulation.Reads.own_is, simulation.Sound.state_sound}
use Rattle.model.proofs.{simulation.Admitted.checkpoint_admitted, simulation.SoundCalls.written_is, simulation.SoundCalls.count_is_of}
use Rattle.whole_runs.specs.{Outcomes.checkpoint_report, Outcomes.checkpoint_outcome, Outcomes.start_outcome, Calls.checkpoint, Calls.Reply, Calls.answered}
use Rattle.whole_runs.specs.Survival.{beginning}
use Rattle.whole_runs.proofs.{whole.Refused.number_of, WholeRuns.start_reached}
use Rattle.theory_tables.specs.Exam.{deletion_list}
use Rattle.theory_roles.specs.Console.{may, owns, entitled, entitled_by, denied, denied_process, console_start, console_checkpoint}
use Rattle.theory_roles.specs.{Runs.made, Runs.ConsoleCall, Runs.console_answered, Runs.console_call, Runs.state_after_console, Isolation.owner}
use Rattle.theory_roles.specs.declared.Operation.TheVariants.{Checkpoint}
use Rattle.theory_roles.specs.Table.{operator}
use Rattle.theory_roles.specs.Learned.{is_owner_by, is_owner, sees, seen, bound, leak, Exposed, asked, done, exposes, exposed}
use Rattle.theory_roles.specs.Real.{blocks, code, hide, hidden_leak, hidden, tenant, rounds, pair_of, Real}
use Rattle.theory_roles.proofs.Far.{At, at, Come, Any, stores_one, many_more, many_rounds}
use Rattle.theory_roles.proofs.Lists.{owner_itself, exposed_append, seen_append, last_seen, differing}
use Rattle.theory_roles.specs.Real as real

-- Another's checkpoints of its own process expose and show nothing.
exposes_none : (s : Run) → exposes 1 s stores_one ≡ []
unfolding exposes is_owner is_owner_by done owns
exposes_none s = by_bool (eqb (console_call s stores_one).reply.report.refused 0)
    (λ e. rw (e, and_no_right (ltb 1 s.count) (in_set 1 1) refl))
    (λ e. rw e)

exposed_none : (j : ℕ) (s : Run) → exposed 1 s (replicate j stores_one) ≡ []
unfolding exposed
exposed_none zero s = refl
exposed_none (suc j) s = rw (exposes_none s) (exposed_none j (console_call s stores_one).run)

seen_none : (j : ℕ) (s : Run) → seen 1 s (replicate j stores_one) ≡ []
unfolding seen sees is_owner is_owner_by
seen_none zero s = refl
seen_none (suc j) s = seen_none j (console_call s stores_one).run

-- The tenant's checkpoint after a list of calls.
abbrev asks : ConsoleCall
asks = tenant (checkpoint 0 (deletion_list 3))

last_exposed : (s : Run) → map (hidden blocks) (exposed 1 s (asks ∷ [])) ≡ asked 1 (made (checkpoint 0 (deletion_list 3))) (bound false) ∷ []
unfolding exposed exposes leak hidden hidden_leak hide code
last_exposed s = rw (owner_itself 1 s.count)

-- With j checkpoints of another's before it: the same is exposed whatever j is, once the bound is hidden.
module _ (s : Run) (l : List ConsoleCall) (j : ℕ) where
  abbrev before : Run
  before = state_after_console (state_after_console s l) (replicate j stores_one)

  exposed_after : map (hidden blocks) (exposed 1 s (l ++ (replicate j stores_one ++ (asks ∷ [])))) ≡ map (hidden blocks) (exposed 1 s l) ++ (asked 1 (made (checkpoint 0 (deletion_list 3))) (bound false) ∷ [])
  exposed_after =
      ap (map (hidden blocks)) (exposed_append 1 s l (replicate j stores_one ++ (asks ∷ [])) ∙ ap (λ (z : List Exposed). exposed 1 s l ++ z)
      (exposed_append 1 (state_after_console s l) (replicate j stores_one) (asks ∷ []) ∙ ap (λ (z : List Exposed). z ++ exposed 1 before (asks ∷ [])) (exposed_none j (state_after_console s l))))
      ∙ map_append (hidden blocks) (exposed 1 s l) (exposed 1 before (asks ∷ []))
      ∙ ap (λ (z : List Exposed). map (hidden blocks) (exposed 1 s l) ++ z) (last_exposed before)

  seen_after : last_of (seen 1 s (l ++ (replicate j stores_one ++ (asks ∷ [])))) ≡ Some (console_call before asks).reply
  seen_after =
      ap last_of (seen_append 1 s l (replicate j stores_one ++ (asks ∷ [])) ∙ ap (λ (z : List Reply). seen 1 s l ++ z)
      (seen_append 1 (state_after_console s l) (replicate j stores_one) (asks ∷ []) ∙ ap (λ (z : List Reply). z ++ seen 1 before (asks ∷ [])) (seen_none j (state_after_console s l)) ∙ last_seen before (checkpoint 0 (deletion_list 3))))
      ∙ last_of_snoc (seen 1 s l) (console_call before asks).reply

meets_bound : (r : Ideal) → Inv r → Limits r → r.n ≡ 3 → r.own 0 < most_interval → most_blocks < r.ledger.written + r.ledger.block_counts 0
    → checkpoint_refusal (state_of r) 0 (deletion_list 3) ≡ Some BlocksUsed
unfolding checkpoint_refusal
meets_bound r v fit size early past =
    let here : 0 < r.n = omega (arith, size) in
    let late = lt-leb most_interval (own (state_of r) 0).0 (rw (own_is r 0 fit.few_processes here (v.self 0 (r.own 0) (omega arith))) early) in
    refusal_in _ (Some BlocksUsed) (4, (rw (state_sound r v fit), (rw (count_is_lem r, size), (rw (count_is_lem r, size), (late, tt)))), lt-ltb most_blocks ((state_of r).disk.written + block_count (process (state_of r) 0)) (omega (arith, past, written_is r v fit, count_is_of r v fit 0 here)), refl)

-- The number that the tenant's checkpoint meets, where it has room within the bound and where it has none.
module _ (s : Run) (k c w : ℕ) where
  allowed : s.count ≡ 3 → denied_process (owner 1) s Checkpoint 0 ≡ false
  unfolding denied_process entitled entitled_by may owns
  allowed size = ap (λ (n : ℕ). not (owns 1 n 0)) size

  reply_number : (o : Option Refusal) → s.count ≡ 3 → checkpoint_refusal s 0 (deletion_list 3) ≡ o → (console_call s asks).reply.report.refused ≡ number_of o
  unfolding console_call console_answered answered console_checkpoint checkpoint_outcome checkpoint_report number_of
  reply_number None size e = rw (allowed size, e)
  reply_number (Some x) size e = rw (allowed size, e)

  enough_room : Come Any s k c w → w + 65_535 ≤ most_blocks → (s.count ≡ 3) × (checkpoint_refusal s 0 (deletion_list 3) ≡ None)
  enough_room x room = by_at x.stands
    where
      by_at : At s x.run → (s.count ≡ 3) × (checkpoint_refusal s 0 (deletion_list 3) ≡ None)
      by_at (at h v) = (
        ap (λ (t : Run). t.count) v.state ∙ count_is_lem x.run ∙ v.size,
        ap (λ (t : Run). checkpoint_refusal t 0 (deletion_list 3)) v.state
            ∙ checkpoint_admitted x.run v.inv v.limits 0 (deletion_list 3) (omega (arith, v.size)) (omega (arith, x.stage.early)) (rw v.size (omega arith))
            (omega (arith, room, x.stage.written, x.stage.tenants)),
      )

  short_of : Come Any s k c w → most_blocks < w + 65_535 → (s.count ≡ 3) × (checkpoint_refusal s 0 (deletion_list 3) ≡ Some BlocksUsed)
  short_of x past = by_at x.stands
    where
      by_at : At s x.run → (s.count ≡ 3) × (checkpoint_refusal s 0 (deletion_list 3) ≡ Some BlocksUsed)
      by_at (at h v) = (
        ap (λ (t : Run). t.count) v.state ∙ count_is_lem x.run ∙ v.size,
        ap (λ (t : Run). checkpoint_refusal t 0 (deletion_list 3)) v.state
            ∙ meets_bound x.run v.inv v.limits v.size (omega (arith, x.stage.early)) (omega (arith, past, x.stage.written, x.stage.tenants)),
      )

-- The start.
abbrev sizes : List ℕ
sizes = 65_535 ∷ 65_535 ∷ 1 ∷ []

start_accepted : start_refusal 3 sizes ≡ None
unfolding start_refusal first_of any_below is_block_count_of
start_accepted = refl

started_so : (console_start operator 3 sizes).answer ≡ Ok tt
unfolding console_start denied may start_outcome
started_so = rw start_accepted

begun_is : real.begun blocks ≡ (start_outcome 3 sizes).run
unfolding real.begun pair_of console_start denied may
begun_is = refl

first : Come Any (start_outcome 3 sizes).run 0 0 131_071
unfolding open_ledger sum_below begin
first = record {
  run = begun 3 sizes;
  stands = at (beginning 3 sizes) (start_reached 3 sizes start_accepted);
  stage = record {
    own = begin_own 3 1;
    mark = begin_mark 3 1;
    early = omega (arith, begin_own 3 0);
    still = begin_transit 3;
    last = refl;
    written = refl;
    block_counts = refl;
    tenants = refl;
  };
  also = tt;
}

-- A million rounds, and then j more checkpoints.
abbrev after_rounds : Run
after_rounds = state_after_console (start_outcome 3 sizes).run (rounds 15_259 1_000_000)

far : Come Any after_rounds 0 1_000_000 999_998_565_131_071
far = many_rounds 1_000_000 131_071 (start_outcome 3 sizes).run (omega arith) (omega arith) first

farther : Come Any (state_after_console after_rounds (replicate 21_894 stores_one)) (0 + 21_894) 1_000_000 999_999_999_954_361
farther = many_more Any (λ s r a k c w g q. q) 21_894 after_rounds 0 1_000_000 999_998_565_131_071 (omega arith) (omega arith) far

-- The tenant's answers.
refused_number : (console_call (state_after_console after_rounds (replicate 21_894 stores_one)) asks).reply.report.refused ≡ 16
unfolding number_of number
refused_number = let w = short_of _ _ _ _ farther (omega arith) in reply_number (state_after_console after_rounds (replicate 21_894 stores_one)) 0 0 0 (Some BlocksUsed) w.0 w.1

no_more : (u : Run) → u ≡ state_after_console u (replicate 0 stores_one)
unfolding state_after_console
no_more u = refl

accepted_number : (console_call after_rounds asks).reply.report.refused ≡ 0
unfolding number_of
accepted_number = let w = enough_room _ _ _ _ far (omega arith) in reply_number after_rounds 0 0 0 None w.0 w.1

module _ (s : Run) (is : s ≡ (start_outcome 3 sizes).run) where
  differs : seen 1 s (rounds 15_259 1_000_000 ++ (replicate 21_894 stores_one ++ (asks ∷ []))) ≡ seen 1 s (rounds 15_259 1_000_000 ++ (asks ∷ [])) → ⊥
  differs = subst (λ (s : Run). seen 1 s (rounds 15_259 1_000_000 ++ (replicate 21_894 stores_one ++ (asks ∷ []))) ≡ seen 1 s (rounds 15_259 1_000_000 ++ (asks ∷ [])) → ⊥) (sym is)
      (differing 16 0 (console_call (state_after_console after_rounds (replicate 21_894 stores_one)) asks).reply (console_call (state_after_console after_rounds (replicate 0 stores_one)) asks).reply _ _ (omega arith)
      (seen_after (start_outcome 3 sizes).run (rounds 15_259 1_000_000) 21_894) (seen_after (start_outcome 3 sizes).run (rounds 15_259 1_000_000) 0) refused_number
      (subst (λ (u : Run). (console_call u asks).reply.report.refused ≡ 0) (no_more after_rounds) accepted_number))

pub blocks_real : Real blocks
unfolding pair_of real.begun
blocks_real = record {
  started = started_so;
  alike = exposed_after (real.begun blocks) (rounds 15_259 1_000_000) 21_894 ∙ sym (exposed_after (real.begun blocks) (rounds 15_259 1_000_000) 0);
  differs = differs (real.begun blocks) begun_is;
}
