-- The report of every console call fits the fields of its number, whoever asks, and whatever the state and the arguments.
-- Assumes nothing.
use Rattle.std.specs.Prelude.{◌≡◌, ◌≤◌, ◌<◌, Err, Ok}
use Rattle.laws.specs.Basics.{Bool, true, List, [], Option, None, Some, ℕ, arith, length, get_or, take, sets, pick, by_bool}
use lib.ListN.{length-map, length-take}
use Prim.{tt}
use Rattle.model.specs.Shapes.{LineAnswer}
use Rattle.model.specs.declared.{Run.Run, Named.Named, Refusal.TheVariants.Denied, Refusal.TheVariants.UnsoundState}
use Rattle.model.specs.{Refusals.first_of, Sound.sound, Steps.Deletion, Steps.listed, Words.process, laws.Refusals.by_refusal, laws.Sound.sound_state}
use Rattle.whole_runs.proofs.{Sizes.few_processes, whole.Handed.gather_length}
use Rattle.whole_runs.specs.Outcomes.{Outcome, judged, pairs, Report, start_report, checkpoint_report, checkpoint_outcome, send_report, send_outcome, deliver_report, deliver_outcome, lose_report, lose_outcome, line_report, line_outcome, recover_report, recover_outcome}
use Rattle.whole_runs.specs.Earliest.{earliest_outcome}
use Rattle.listing.specs.answers.Codes.{Fits}
use Rattle.listing.proofs.answers.Fit.{fits_refused, fits_value, fits_none, checkpoint_fits, send_fits, deliver_fits, lose_fits, line_fits, recover_fits, earliest_fits}
use Rattle.theory_roles.specs.Console.{ListAnswer}
use Rattle.theory_roles.specs.declared.{Role.Role, Caller.Caller}
use Rattle.theory_roles.specs.declared.Operation.TheVariants.{Start, Checkpoint, Send, Deliver, Lose, Recover, Line, Earliest, List as Catalogue, Counts}
use Rattle.theory_roles.specs.Console.{denied, denied_process, denied_message, denial, entitled, shown, console_checkpoint, console_send, console_deliver, console_lose, console_recover, console_line, console_earliest, console_list, list_refusal, listed_to, list_report, console_counts, counts_refusal, kept_counts}
use Rattle.words.specs.Layout.{run_of}
use Rattle.in_place.specs.Starting.{start_outcome_in}
use Rattle.library_console.specs.Asked.{claim_of, asked, console_start_in, start_as, checkpoint_as, send_as, deliver_as, lose_as, recover_as, line_as, earliest_as, list_as, counts_as}
use Rattle.lemidrosy.proofs.Starting.{start_fits}

-- No role, a caller who is denied the call, and one who is not.
call_fits : {A : Type 0} (report : A → Report) (q : Option Role) (owned : ℕ) (test : Caller → Bool) (refusal : Outcome A) (made : Caller → Outcome A) → Fits (report refusal.answer)
    → ((c : Caller) → Fits (report (made c).answer)) → Fits (report (asked q owned refusal (λ c. pick (test c) refusal (made c))).answer)
unfolding asked
call_fits report None owned test refusal made denied allowed = denied
call_fits report (Some r) owned test refusal made denied allowed = by_bool (test (record { role = r; owned = owned }))
    (λ e. rw e denied)
    (λ e. rw e (allowed (record { role = r; owned = owned })))

-- How many checkpoints a list can give.
kept_few : (c : Caller) (s : Run) → sound s ≡ true → (p : ℕ) → p < s.count → length (pick (entitled c s.count p) (listed p (process s p).kept) []) ≤ 16
unfolding listed process
kept_few c s h p lt = by_bool (entitled c s.count p)
    (λ e. rw (e, length-map {B = Deletion} (take (get_or s.kept_count p 0) (get_or s.kept.0 p [])) (λ x. record { process = p; index = x.index }))
    (omega (arith, length-take (get_or s.kept_count p 0) (get_or s.kept.0 p []), few_processes s h, ((sound_state s h).processes p lt).kept_count_most)))
    (λ e. rw e (omega arith))

listed_few : (s : Run) (c : Caller) (lent : List ℕ) → list_refusal s lent ≡ None → length (listed_to c s) < 16_777_216
unfolding list_refusal first_of listed_to
listed_few s c lent e = by_bool (sound s)
    (λ h. omega (arith, few_processes s h, gather_length s.count 16 (λ p. pick (entitled c s.count p) (listed p (process s p).kept) []) (kept_few c s h)))
    (λ h. absurd (let f : Some UnsoundState ≡ None = rw h at e in let z : ◌≡◌ {A = ℕ} 0 1 = cc in omega arith))

module _ (role owned : ℕ) where
  pub start_as_fits : (w : List ℕ) (n : ℕ) (block_counts : List ℕ) → Fits (start_report (start_as role owned w n block_counts).answer)
  unfolding start_as console_start_in start_report
  start_as_fits w n block_counts = call_fits start_report (claim_of role) owned (λ c. denied c Start) (denial (run_of w) [] []) (λ c. start_outcome_in (length w) n block_counts)
      (fits_refused Denied) (λ c. start_fits (length w) n block_counts)

  module _ (s : Run) where
    pub checkpoint_as_fits : (i : ℕ) (lent : List ℕ) → Fits (checkpoint_report (checkpoint_as role owned s i lent).answer)
    unfolding checkpoint_as console_checkpoint checkpoint_report
    checkpoint_as_fits i lent = call_fits checkpoint_report (claim_of role) owned (λ c. denied_process c s Checkpoint i) (denial s lent []) (λ c. checkpoint_outcome s i lent) (fits_refused Denied) (λ c. checkpoint_fits s i lent)

    pub send_as_fits : (i j : ℕ) → Fits (send_report (send_as role owned s i j).answer)
    unfolding send_as console_send send_report
    send_as_fits i j = call_fits send_report (claim_of role) owned (λ c. denied_process c s Send i) (denial s [] []) (λ c. send_outcome s i j) (fits_refused Denied) (λ c. send_fits s i j)

    pub deliver_as_fits : (m : ℕ) (lent : List ℕ) → Fits (deliver_report (deliver_as role owned s m lent).answer)
    unfolding deliver_as console_deliver deliver_report
    deliver_as_fits m lent = call_fits deliver_report (claim_of role) owned (λ c. denied_message c s Deliver m) (denial s lent []) (λ c. deliver_outcome s m lent) (fits_refused Denied) (λ c. deliver_fits s m lent)

    pub lose_as_fits : (m : ℕ) → Fits (lose_report (lose_as role owned s m).answer)
    unfolding lose_as console_lose lose_report
    lose_as_fits m = call_fits lose_report (claim_of role) owned (λ c. denied_message c s Lose m) (denial s [] []) (λ c. lose_outcome s m) (fits_refused Denied) (λ c. lose_fits s m)

    pub recover_as_fits : (F : ℕ) (deleted lent : List ℕ) → Fits (recover_report (recover_as role owned s F deleted lent).answer)
    unfolding recover_as console_recover recover_report
    recover_as_fits F deleted lent = call_fits recover_report (claim_of role) owned (λ c. denied c Recover) (denial s deleted lent) (λ c. recover_outcome s F deleted lent) (fits_refused Denied) (λ c. recover_fits s F deleted lent)

    pub earliest_as_fits : (l : List Named) (lent : List ℕ) → Fits (line_report (earliest_as role owned s l lent).answer)
    unfolding earliest_as console_earliest line_report
    earliest_as_fits l lent = call_fits line_report (claim_of role) owned (λ c. denied c Earliest) (denial s [] lent) (λ c. earliest_outcome s l lent) (fits_refused Denied) (λ c. earliest_fits s l lent)

    pub line_as_fits : (F : ℕ) (lent : List ℕ) → Fits (line_report (line_as role owned s F lent).answer)
    unfolding line_as console_line line_report
    line_as_fits F lent = call_fits line_report (claim_of role) owned (λ c. denied c Line) (denial s [] lent)
        (λ c. record { run = s; answer = (line_outcome s F lent).answer; rose = 0; deleted = []; line = shown c s.count lent (line_outcome s F lent).line }) (fits_refused Denied) (λ c. line_fits s F lent)

    -- The two calls that the library has not.
    counted : List ℕ → Outcome LineAnswer
    counted lent = judged (counts_refusal s lent)
        (λ r. record { run = s; answer = Err r; rose = 0; deleted = []; line = lent })
        (record { run = s; answer = Ok tt; rose = 0; deleted = []; line = sets lent 0 (kept_counts s) })

    counted_fits : (lent : List ℕ) → Fits (line_report (counted lent).answer)
    unfolding counted line_report
    counted_fits lent = by_refusal (counts_refusal s lent) (λ e. rw e (fits_none 0 (omega arith))) (λ x e. rw e (fits_refused x))

    pub counts_as_fits : (lent : List ℕ) → Fits (line_report (counts_as role owned s lent).answer)
    unfolding counts_as console_counts line_report counted
    counts_as_fits lent = call_fits line_report (claim_of role) owned (λ c. denied c Counts) (denial s [] lent) (λ c. counted lent) (fits_refused Denied) (λ c. counted_fits lent)

    catalogued : List ℕ → Caller → Outcome ListAnswer
    catalogued lent c = judged (list_refusal s lent)
        (λ r. record { run = s; answer = Err r; rose = 0; deleted = lent; line = [] })
        (record { run = s; answer = Ok (length (listed_to c s)); rose = 0; deleted = sets lent 0 (pairs (listed_to c s)); line = [] })

    catalogued_fits : (lent : List ℕ) (c : Caller) → Fits (list_report (catalogued lent c).answer)
    unfolding catalogued list_report
    catalogued_fits lent c = by_refusal (list_refusal s lent) (λ e. rw e (fits_value (length (listed_to c s)) 0 (listed_few s c lent e) (omega arith))) (λ x e. rw e (fits_refused x))

    pub list_as_fits : (lent : List ℕ) → Fits (list_report (list_as role owned s lent).answer)
    unfolding list_as console_list list_report catalogued
    list_as_fits lent = call_fits list_report (claim_of role) owned (λ c. denied c Catalogue) (denial s lent []) (catalogued lent) (fits_refused Denied) (catalogued_fits lent)
