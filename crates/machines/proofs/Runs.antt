-- Runs of a machine: a fact that holds at the start and that every answer keeps holds after every list of answers; what lists of exchanges come to, one exchange after
-- the other; a machine that has a measure ends.
-- Assumes nothing.
use Rattle.std.specs.Prelude.{◌≡◌, ◌||◌, ◌∷◌, ◌++◌, ◌⊎◌, ◌<◌}
use Rattle.laws.specs.Basics.{refl, sym, ◌∙◌, ap, subst, Bool, List, [], append-nil, append_assoc, inl, inr, ℕ, arith, length}
use mathlib.Core.Logic.{⊎_elim}
use Rattle.laws.specs.{Tests.some_of, Select.some_append, Select.some_one}
use Rattle.machines.specs.Machines.{Request, Count, Argument, Open, Read, Write, Say, Fail, Stop, Answer, Machine, Exchange, stepped, exchanged, state_from, exchanges_from, asked_from, state_after, exchanges, asked, written, error_text, written_of, error_text_of, read_by, read_of, gathered, is_end, end_met, requests_of, Reached, Ends}

module _ {S : Type 0} (m : Machine S) where
  module _ (P : S → List Exchange → Type 0) (kept : (s : S) (talk : List Exchange) (a : Answer) → P s talk → P (stepped m s a) (talk ++ (exchanged m s a ∷ []))) where
    kept_from : (answers : List Answer) (s : S) (talk : List Exchange) → P s talk → P (state_from m s answers) (talk ++ exchanges_from m s answers)
    unfolding state_from exchanges_from
    kept_from [] s talk h = subst (P s) (sym (append-nil talk)) h
    kept_from (a ∷ answers) s talk h =
        subst
        (P (state_from m (stepped m s a) answers))
        (append_assoc talk (exchanged m s a ∷ []) (exchanges_from m (stepped m s a) answers))
        (kept_from answers (stepped m s a) (talk ++ (exchanged m s a ∷ [])) (kept s talk a h))

    -- What holds of the first state before anything is asked, and is kept by every answer, holds after every list of answers.
    pub throughout : P m.first [] → (answers : List Answer) → P (state_after m answers) (exchanges m answers)
    throughout h answers = kept_from answers m.first [] h

  -- What is asked for is what was answered, and the request that is not answered yet.
  asked_from_lem : (answers : List Answer) (s : S) → asked_from m s answers ≡ requests_of (exchanges_from m s answers) ++ (m.ask (state_from m s answers) ∷ [])
  unfolding asked_from exchanges_from requests_of state_from
  asked_from_lem [] s = refl
  asked_from_lem (a ∷ answers) s = ap (λ (l : List Request). m.ask s ∷ l) (asked_from_lem answers (stepped m s a))

  pub asked_is : (answers : List Answer) → asked m answers ≡ requests_of (exchanges m answers) ++ (m.ask (state_after m answers) ∷ [])
  asked_is answers = asked_from_lem answers m.first

-- Requests and exchanges, one after the other.
pub requests_then : (l k : List Exchange) → requests_of (l ++ k) ≡ requests_of l ++ requests_of k
unfolding requests_of
requests_then [] k = refl
requests_then (e ∷ l) k = ap (λ (x : List Request). e.request ∷ x) (requests_then l k)

pub written_then : (l k : List Request) → written_of (l ++ k) ≡ written_of l ++ written_of k
unfolding written_of
written_then [] k = refl
written_then (r ∷ l) k = ap (λ (x : List ℕ). written r ++ x) (written_then l k) ∙ sym (append_assoc (written r) (written_of l) (written_of k))

pub error_text_then : (l k : List Request) → error_text_of (l ++ k) ≡ error_text_of l ++ error_text_of k
unfolding error_text_of
error_text_then [] k = refl
error_text_then (r ∷ l) k = ap (λ (x : List ℕ). error_text r ++ x) (error_text_then l k) ∙ sym (append_assoc (error_text r) (error_text_of l) (error_text_of k))

pub read_then : (l k : List Exchange) → read_of (l ++ k) ≡ read_of l ++ read_of k
unfolding read_of
read_then [] k = refl
read_then (e ∷ l) k = ap (λ (x : List ℕ). read_by e.request e.answer ++ x) (read_then l k) ∙ sym (append_assoc (read_by e.request e.answer) (read_of l) (read_of k))

pub gathered_then : (by : Request → Answer → List ℕ) (l k : List Exchange) → gathered by (l ++ k) ≡ gathered by l ++ gathered by k
unfolding gathered
gathered_then by [] k = refl
gathered_then by (e ∷ l) k =
    ap (λ (x : List ℕ). by e.request e.answer ++ x) (gathered_then by l k) ∙ sym (append_assoc (by e.request e.answer) (gathered by l) (gathered by k))

-- One more of each.
pub written_one : (r : Request) → written_of (r ∷ []) ≡ written r
unfolding written_of
written_one r = append-nil (written r)

pub error_text_one : (r : Request) → error_text_of (r ∷ []) ≡ error_text r
unfolding error_text_of
error_text_one r = append-nil (error_text r)

-- What was written, with the request that is not answered yet.
pub written_is : {S : Type 0} (m : Machine S) (answers : List Answer) → written_of (asked m answers) ≡ written_of (requests_of (exchanges m answers)) ++ written (m.ask (state_after m answers))
written_is m answers =
    ap written_of (asked_is m answers)
    ∙ written_then (requests_of (exchanges m answers)) (m.ask (state_after m answers) ∷ [])
    ∙ ap (λ (x : List ℕ). written_of (requests_of (exchanges m answers)) ++ x) (written_one (m.ask (state_after m answers)))

pub error_text_is : {S : Type 0} (m : Machine S) (answers : List Answer) → error_text_of (asked m answers) ≡ error_text_of (requests_of (exchanges m answers)) ++ error_text (m.ask (state_after m answers))
error_text_is m answers =
    ap error_text_of (asked_is m answers)
    ∙ error_text_then (requests_of (exchanges m answers)) (m.ask (state_after m answers) ∷ [])
    ∙ ap (λ (x : List ℕ). error_text_of (requests_of (exchanges m answers)) ++ x) (error_text_one (m.ask (state_after m answers)))

-- One exchange more.
module _ (talk : List Exchange) (e : Exchange) where
  pub read_next : read_of (talk ++ (e ∷ [])) ≡ read_of talk ++ read_by e.request e.answer
  unfolding read_of
  read_next = read_then talk (e ∷ []) ∙ ap (λ (x : List ℕ). read_of talk ++ x) (append-nil (read_by e.request e.answer))

  pub gathered_next : (by : Request → Answer → List ℕ) → gathered by (talk ++ (e ∷ [])) ≡ gathered by talk ++ by e.request e.answer
  unfolding gathered
  gathered_next by = gathered_then by talk (e ∷ []) ∙ ap (λ (x : List ℕ). gathered by talk ++ x) (append-nil (by e.request e.answer))

  pub some_next : (test : Exchange → Bool) → some_of test (talk ++ (e ∷ [])) ≡ some_of test talk || test e
  some_next test = some_append test talk (e ∷ []) ∙ ap (λ (b : Bool). some_of test talk || b) (some_one test e)

  pub end_next : end_met (talk ++ (e ∷ [])) ≡ end_met talk || is_end e.answer
  unfolding end_met
  end_next = some_next (λ (x : Exchange). is_end x.answer)

  pub written_next : written_of (requests_of (talk ++ (e ∷ []))) ≡ written_of (requests_of talk) ++ written e.request
  unfolding requests_of
  written_next =
      ap written_of (requests_then talk (e ∷ []))
      ∙ written_then (requests_of talk) (e.request ∷ [])
      ∙ ap (λ (x : List ℕ). written_of (requests_of talk) ++ x) (written_one e.request)

  pub error_text_next : error_text_of (requests_of (talk ++ (e ∷ []))) ≡ error_text_of (requests_of talk) ++ error_text e.request
  unfolding requests_of
  error_text_next =
      ap error_text_of (requests_then talk (e ∷ []))
      ∙ error_text_then (requests_of talk) (e.request ∷ [])
      ∙ ap (λ (x : List ℕ). error_text_of (requests_of talk) ++ x) (error_text_one e.request)

-- The first state is reached, and what an answer leads to.
module _ {S : Type 0} (m : Machine S) where
  state_then : (answers : List Answer) (s : S) (a : Answer) → state_from m s (answers ++ (a ∷ [])) ≡ stepped m (state_from m s answers) a
  unfolding state_from
  state_then [] s a = refl
  state_then (b ∷ answers) s a = state_then answers (stepped m s b) a

  pub reached_first : Reached m m.first
  unfolding Reached state_from
  reached_first = ([], refl)

  pub reached_next : (s : S) (a : Answer) → Reached m s → Reached m (stepped m s a)
  unfolding Reached
  reached_next s a (answers, e) = (answers ++ (a ∷ []), ap (λ (x : S). stepped m x a) e ∙ sym (state_then answers m.first a))

-- Whether a request is `Stop`.
is_stop : (r : Request) → (r ≡ Stop) ⊎ (r ≡ Stop → ⊥)
is_stop Count = inr (λ e. let z : ◌≡◌ {A = ℕ} 0 1 = cc in omega arith)
is_stop (Argument i most) = inr (λ e. let z : ◌≡◌ {A = ℕ} 0 1 = cc in omega arith)
is_stop (Open path) = inr (λ e. let z : ◌≡◌ {A = ℕ} 0 1 = cc in omega arith)
is_stop (Read most) = inr (λ e. let z : ◌≡◌ {A = ℕ} 0 1 = cc in omega arith)
is_stop (Write text) = inr (λ e. let z : ◌≡◌ {A = ℕ} 0 1 = cc in omega arith)
is_stop (Say text) = inr (λ e. let z : ◌≡◌ {A = ℕ} 0 1 = cc in omega arith)
is_stop (Fail text) = inr (λ e. let z : ◌≡◌ {A = ℕ} 0 1 = cc in omega arith)
is_stop Stop = inl refl

-- A machine that has a measure ends: after more answers than that it has stopped.
module _ {S : Type 0} (m : Machine S) (ends : Ends m) where
  stays_from : (answers : List Answer) (s : S) → m.ask s ≡ Stop → m.ask (state_from m s answers) ≡ Stop
  unfolding state_from
  stays_from [] s e = e
  stays_from (a ∷ answers) s e = stays_from answers (stepped m s a) (ends.stays s a e)

  stops_from : (answers : List Answer) (s : S) → ends.left s < length answers → m.ask (state_from m s answers) ≡ Stop
  unfolding state_from
  stops_from [] s h = absurd (omega arith)
  stops_from (a ∷ answers) s h =
      ⊎_elim
      (λ e. stays_from (a ∷ answers) s e)
      (λ going. stops_from answers (stepped m s a) (omega (arith, h, ends.falls s a going)))
      (is_stop (m.ask s))

  pub stops : (answers : List Answer) → ends.left m.first < length answers → m.ask (state_after m answers) ≡ Stop
  stops answers h = stops_from answers m.first h
