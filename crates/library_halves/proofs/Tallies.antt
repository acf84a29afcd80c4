-- What is counted in the log of a merge is what the model says of the records taken.
-- Assumes nothing.
use Rattle.std.specs.Prelude.{◌≡◌, ◌∷◌, ◌+◌, ◌*◌, ◌/◌, ◌%◌, ◌≤◌, ◌<◌, unwrap_or}
use Rattle.std.specs.Option.{is_some}
use Rattle.laws.specs.Basics.{refl, ◌∙◌, ap, true, List, [], Option, None, Some, ℕ, zero, suc, arith, eqb, ltb, leb, length, get_or, eq-eqb, ne_eqb, ltb-true, le-leb, pick, by_bool, by_eq}
use native.Mathlib.Numerals.{add-one}
use Rattle.laws.specs.{Loops.iter, Loops.iter_more, Truth.and_left, Truth.and_right}
use Rattle.model.specs.declared.Event.{Event}
use Rattle.model.specs.Trace.{fields_of, fits, word_of_def}
use Rattle.theory_merges.specs.Halves.{HalfEvent, checkpoint_at, send_to, deliver_of, lose_of, is_send, send_by, how_many, is_send_number, message_number, receives, receiver_of, plain_event}
use Rattle.library_halves.specs.declared.{log.Message.Message, log.Tally.Tally}
use Rattle.library_halves.specs.Log.{word_in_of, Logged, tallied, no_tally, tally_of}

-- The message that was sent, or what stands for none.
abbrev pub named : Option Message → Message
named o = unwrap_or o (record { number = 0; receiver = 0 })

-- No count is above the number of words.
abbrev pub Small : ℕ → Tally → Type 0
Small k t = (t.own ≤ k) × (t.all ≤ k) × ((named t.sent).number ≤ k)

module _ (s c : ℕ) where
  tallied_small : (k : ℕ) (t : Tally) (w : ℕ) → Small k t → Small (suc k) (tallied t w s c)
  unfolding tallied
  tallied_small k t w (o, a, m) =
      by_bool (eqb (w / 536870912) 1)
      (λ e. by_bool (eqb (w / 33554432 % 16) s)
      (λ f. by_bool (eqb (t.own + 1) c)
      (λ g. rw (e, f, g) (omega arith, omega arith, omega arith))
      (λ g. rw (e, f, g) (omega arith, omega arith, omega arith)))
      (λ f. rw (e, f) (omega arith, omega arith, omega arith)))
      (λ e. rw e (omega arith, omega arith, omega arith))

  pub tally_small : (log : List ℕ) (k : ℕ) → Small k (tally_of log k s c)
  unfolding tally_of iter
  tally_small log zero = (omega arith, omega arith, omega arith)
  tally_small log (suc k) = tallied_small k (tally_of log k s c) (get_or log k 0) (tally_small log k)

  pub tally_none : (log : List ℕ) → no_tally ≡ tally_of log 0 s c
  unfolding tally_of iter
  tally_none log = refl

  pub tally_next : (log : List ℕ) (i : ℕ) (t r : Tally) → t ≡ tally_of log i s c → r ≡ tallied t (get_or log i 0) s c → r ≡ tally_of log (i + 1) s c
  unfolding tally_of
  tally_next log i t r e f = iter_more (λ k u. tallied u (get_or log k 0) s c) no_tally t i r e f

  -- The same of the records taken.
  unfoldable pub sent_of : List HalfEvent → Option Message
  sent_of [] = None
  sent_of (x ∷ l) = pick (is_send_number s c x l) (Some (record { number = suc (how_many is_send l); receiver = receives x })) (sent_of l)

  abbrev pub heard : List HalfEvent → Tally
  heard l = record { own = how_many (send_by s) l; all = how_many is_send l; sent = sent_of l }

  -- Its message is the one that the model names.
  pub heard_number : (l : List HalfEvent) → (named (heard l).sent).number ≡ message_number l s c
  unfolding sent_of message_number
  heard_number [] = refl
  heard_number (x ∷ l) = by_bool (is_send_number s c x l) (λ e. rw e) (λ e. rw e (heard_number l))

  pub heard_receiver : (l : List HalfEvent) → (named (heard l).sent).receiver ≡ receiver_of l s c
  unfolding sent_of receiver_of
  heard_receiver [] = refl
  heard_receiver (x ∷ l) = by_bool (is_send_number s c x l) (λ e. rw e) (λ e. rw e (heard_receiver l))

  pub heard_sent : (l : List HalfEvent) → is_some (heard l).sent ≡ leb 1 (message_number l s c)
  unfolding sent_of message_number
  heard_sent [] = refl
  heard_sent (x ∷ l) = by_bool (is_send_number s c x l) (λ e. rw (e, le-leb 1 (suc (how_many is_send l)) (omega arith))) (λ e. rw e (heard_sent l))

  fit_process : (e : Event) → fits e ≡ true → ((fields_of e).process < 16) × ((fields_of e).argument < 33554432)
  unfolding fits
  fit_process e h = (
    ltb-true (fields_of e).process 16 (and_left (ltb (fields_of e).process 16) (ltb (fields_of e).argument 33554432) h),
    ltb-true (fields_of e).argument 33554432 (and_right (ltb (fields_of e).process 16) (ltb (fields_of e).argument 33554432) h),
  )

  -- A word of another kind counts nothing.
  no_send : (t : Tally) (w : ℕ) → (w / 536870912 ≡ 1 → ⊥) → tallied t w s c ≡ t
  unfolding tallied
  no_send t w h = rw (ne_eqb (w / 536870912) 1 h)

  a_send : (t : Tally) (i j : ℕ) → i < 16 → j < 33554432 → tallied t (1 * 536870912 + i * 33554432 + j) s c
      ≡ pick (eqb i s) (pick (eqb (t.own + 1) c) (record { own = t.own + 1; all = t.all + 1; sent = Some (record { number = t.all + 1; receiver = j }) })
      (record { own = t.own + 1; all = t.all + 1; sent = t.sent }))
      (record { own = t.own; all = t.all + 1; sent = t.sent })
  unfolding tallied
  a_send t i j hi hj =
      let w = 1 * 536870912 + i * 33554432 + j in
      let k : w / 536870912 ≡ 1 = omega arith in
      let p : w / 33554432 % 16 ≡ i = omega arith in
      let a : w % 33554432 ≡ j = omega arith in
      rw (k, p, a)

  tallied_one : (l : List HalfEvent) (x : HalfEvent) → fits (plain_event l x) ≡ true → tallied (heard l) (word_in_of l x) s c ≡ heard (x ∷ l)
  unfolding word_in_of word_of_def fields_of plain_event how_many is_send send_by sent_of is_send_number receives
  tallied_one l (checkpoint_at p) h = let f = fit_process _ h in no_send (heard l) (0 * 536870912 + p * 33554432 + 0) (λ e. omega arith)
  tallied_one l (send_to i j) h =
      let f = fit_process _ h in
      a_send (heard l) i j f.0 f.1
      ∙ by_bool (eqb i s)
      (λ e. by_eq c (suc (how_many (send_by s) l))
      (λ g. let g2 : how_many (send_by s) l + 1 ≡ c = omega arith in rw (e, eq-eqb _ _ g, eq-eqb _ _ g2, add-one (how_many (send_by s) l), add-one (how_many is_send l)))
      (λ g. let g2 : how_many (send_by s) l + 1 ≡ c → ⊥ = λ z. g (omega arith) in rw (e, ne_eqb _ _ g, ne_eqb _ _ g2, add-one (how_many (send_by s) l), add-one (how_many is_send l))))
      (λ e. rw (e, add-one (how_many is_send l)))
  tallied_one l (deliver_of q d) h = let f = fit_process _ h in no_send (heard l) (2 * 536870912 + 0 * 33554432 + message_number l q d) (λ e. omega arith)
  tallied_one l (lose_of q d) h = let f = fit_process _ h in no_send (heard l) (3 * 536870912 + 0 * 33554432 + message_number l q d) (λ e. omega arith)

  pub logged_tally : (log : List ℕ) (l : List HalfEvent) → Logged l log → tally_of log (length l) s c ≡ heard l
  unfolding tally_of iter Logged how_many sent_of
  logged_tally log [] h = refl
  logged_tally log (x ∷ l) (w, f, h) =
      ap (λ (t : Tally). tallied t (get_or log (length l) 0) s c) (logged_tally log l h) ∙ ap (λ (v : ℕ). tallied (heard l) v s c) w ∙ tallied_one l x f

  -- What the tally of a log names.
  module _ (log : List ℕ) (t : Tally) (is : t ≡ tally_of log (length log) s c) (m : Message) (names : m ≡ named t.sent) where
    pub named_small : m.number ≤ length log
    named_small = rw (names, is) (tally_small log (length log)).2

    pub named_is : (l : List HalfEvent) → Logged l log → length log ≡ length l → (m.number ≡ message_number l s c) × (m.receiver ≡ receiver_of l s c)
    named_is l h e =
        let all : tally_of log (length log) s c ≡ heard l = ap (λ (k : ℕ). tally_of log k s c) e ∙ logged_tally log l h in
        rw (names, is, all) (heard_number l, heard_receiver l)
