-- A call that is denied, and one that is not, for who claims a role by its number. `b` is what the test of it answered.
-- Assumes nothing.
use Rattle.std.specs.Prelude.{◌≡◌, Err, Option, None, Some}
use Rattle.laws.specs.Basics.{refl, sym, Bool, false≢true, List, [], ℕ, length, pick, by_bool}
use Rattle.model.specs.declared.{Run.Run, Named.Named, Refusal.TheVariants.Denied}
use Rattle.whole_runs.specs.Outcomes.{Outcome, checkpoint_outcome, send_outcome, deliver_outcome, lose_outcome, recover_outcome}
use Rattle.whole_runs.specs.Earliest.{earliest_outcome}
use Rattle.words.specs.Layout.{run_of}
use Rattle.in_place.specs.Starting.{StartsTheSame, start_outcome_in, start_words}
use Rattle.in_place.proofs.Judging.{starts_the_same}
use Rattle.theory_roles.specs.declared.{Role.Role, Caller.Caller}
use Rattle.theory_roles.specs.declared.Operation.TheVariants.{Start, Checkpoint, Send, Deliver, Lose, Recover, Earliest}
use Rattle.theory_roles.specs.Console.{denied, denied_process, denied_message, denial, console_start, console_checkpoint, console_send, console_deliver, console_lose, console_recover, console_earliest}
use Rattle.library_console.specs.Asked.{claim_of, asked, denied_as, console_start_in, ConsoleStartsTheSame, start_as, start_words_as, checkpoint_as, send_as, deliver_as, lose_as, recover_as, earliest_as}

pub asked_by : {A : Type 0} (owned : ℕ) (test : Caller → Bool) (refusal out : Outcome A) {b : Bool} (q : Option Role) → b ≡ denied_as q owned test
    → asked q owned refusal (λ c. pick (test c) refusal out) ≡ pick b refusal out
unfolding asked denied_as
asked_by owned test refusal out None e = rw e
asked_by owned test refusal out (Some r) e = rw e

pub console_starts_the_same : ConsoleStartsTheSame
unfolding ConsoleStartsTheSame console_start_in console_start StartsTheSame
console_starts_the_same c w n block_counts long most = by_bool (denied c Start)
    (λ e. rw e (refl, λ z. absurd (false≢true (sym z))))
    (λ e. rw (e, long, starts_the_same n block_counts most) (refl, λ z. refl))

-- Each call that the library has, by what the test answered.
module _ (role owned : ℕ) {b : Bool} where
  pub start_by : (w : List ℕ) (n : ℕ) (block_counts : List ℕ) → b ≡ denied_as (claim_of role) owned (λ c. denied c Start)
      → (start_as role owned w n block_counts ≡ pick b (denial (run_of w) [] []) (start_outcome_in (length w) n block_counts))
      × (start_words_as role owned w n block_counts ≡ pick b w (start_words w n block_counts))
  unfolding start_as start_words_as console_start_in
  start_by w n block_counts e = (asked_by owned (λ c. denied c Start) _ (start_outcome_in (length w) n block_counts) (claim_of role) e, rw e)

  module _ (s : Run) where
    pub checkpoint_by : (i : ℕ) (lent : List ℕ) → b ≡ denied_as (claim_of role) owned (λ c. denied_process c s Checkpoint i) → checkpoint_as role owned s i lent ≡ pick b (denial s lent []) (checkpoint_outcome s i lent)
    unfolding checkpoint_as console_checkpoint
    checkpoint_by i lent e = asked_by owned (λ c. denied_process c s Checkpoint i) _ (checkpoint_outcome s i lent) (claim_of role) e

    pub send_by : (i j : ℕ) → b ≡ denied_as (claim_of role) owned (λ c. denied_process c s Send i) → send_as role owned s i j ≡ pick b (denial s [] []) (send_outcome s i j)
    unfolding send_as console_send
    send_by i j e = asked_by owned (λ c. denied_process c s Send i) _ (send_outcome s i j) (claim_of role) e

    pub deliver_by : (m : ℕ) (lent : List ℕ) → b ≡ denied_as (claim_of role) owned (λ c. denied_message c s Deliver m) → deliver_as role owned s m lent ≡ pick b (denial s lent []) (deliver_outcome s m lent)
    unfolding deliver_as console_deliver
    deliver_by m lent e = asked_by owned (λ c. denied_message c s Deliver m) _ (deliver_outcome s m lent) (claim_of role) e

    pub lose_by : (m : ℕ) → b ≡ denied_as (claim_of role) owned (λ c. denied_message c s Lose m) → lose_as role owned s m ≡ pick b (denial s [] []) (lose_outcome s m)
    unfolding lose_as console_lose
    lose_by m e = asked_by owned (λ c. denied_message c s Lose m) _ (lose_outcome s m) (claim_of role) e

    pub recover_by : (F : ℕ) (deleted lent : List ℕ) → b ≡ denied_as (claim_of role) owned (λ c. denied c Recover) → recover_as role owned s F deleted lent ≡ pick b (denial s deleted lent) (recover_outcome s F deleted lent)
    unfolding recover_as console_recover
    recover_by F deleted lent e = asked_by owned (λ c. denied c Recover) _ (recover_outcome s F deleted lent) (claim_of role) e

    pub earliest_by : (l : List Named) (lent : List ℕ) → b ≡ denied_as (claim_of role) owned (λ c. denied c Earliest) → earliest_as role owned s l lent ≡ pick b (denial s [] lent) (earliest_outcome s l lent)
    unfolding earliest_as console_earliest
    earliest_by l lent e = asked_by owned (λ c. denied c Earliest) _ (earliest_outcome s l lent) (claim_of role) e
