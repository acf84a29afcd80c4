-- What a send leaves of the words stands for the state that document 01 has.
-- Assumes nothing.
use Rattle.std.specs.Prelude.{◌≡◌, ◌∷◌, ◌++◌, ◌+◌, ◌-◌, ◌*◌, ◌≤◌, ◌<◌, Err, Ok}
use Rattle.laws.specs.Basics.{refl, sym, ◌∙◌, ap, true, List, [], None, Some, ℕ, arith, eqb, length, length-append, ne_eqb, eqb-true, eqb-false, by_bool}
use Rattle.model.specs.declared.{Message.Message, Refusal.Refusal}
use Rattle.model.specs.{Words.process, Words.with_process, Words.under_way, Words.with_messages, Steps.sent_message, Steps.marked, Steps.send_state}
use Rattle.model.specs.{Sound.sound, Refusals.unsound, Refusals.send_refusal, laws.Refusals.skipped}
use Rattle.whole_runs.specs.Outcomes.{send_outcome}
use Prim.{tt}
use Rattle.admissions.specs.Admissions.{refusal_of, send_admission_of}
use Rattle.admissions.proofs.Cases.{accepted_send, admission_rules}
use Rattle.words.specs.Layout.{state_size, word, wide2, count_of, end_of, kept_count_at_of, mark_at, blocks_at_of, part_at, pins_at_of, mark_in, is_message, messages_in, end_fits_of, run_of}
use Rattle.words.specs.{Parts.process_in, Frames.OnlyProcess, Frames.OnlyMessages, Clean.CleanMessages, Puts.puts, Puts.one, Puts.puts2}
use Rattle.words.proofs.{Reading.untouched, Reading.touched, Reading.puts_length, Reading.wide2_back, ViewSound.SoundWords, ViewSound.sound_words}
use Rattle.words.proofs.{Same.vector_length, Same.vector_same, Same.pins_same, Same.kept_same, View.process_is, View.count_is_lem, View.underway_is, View.last_is_lem}
use Rattle.words.proofs.ViewChange.{with_process_lem, with_messages_lem, messages_fit, messages_same, end_same}
use Rattle.words.proofs.ViewClean.{clean_messages, clean_process, clean_kept_same, clean_messages_same}
use Rattle.words.specs.messages.Places.{with_room, put_last_of}
use Rattle.words.proofs.messages.Closed.{closed_length, closed_rest, closed_messages, closed_many}
use Rattle.words.proofs.messages.Added.{added_length, added_count, added_rest, added_messages, added_fits}
use Rattle.words.proofs.messages.Zeros.{clean_closed, clean_added}
use Rattle.in_place.specs.{Left.Leaves, Sending.sent_in, Sending.sent_words}

-- A place is left: the same messages, and nothing else has changed but their places.
pub record EnoughRoom (w v : List ℕ) : Type 0 where
  pub long : length v ≡ state_size
  pub room : end_of v < 64
  pub rest : (q : ℕ) → q < 5184 → (q ≡ 12 → ⊥) → word v q ≡ word w q
  pub same : messages_in v ≡ messages_in w
  pub clean : CleanMessages w → CleanMessages v

pub with_room_lem : (w : List ℕ) → sound (run_of w) ≡ true → word w 1 < 64 → EnoughRoom w (with_room w)
unfolding with_room
with_room_lem w h few =
    let k = sound_words w h in
    by_bool (eqb (end_of w) 64)
    (λ e. let full = eqb-true (end_of w) 64 e in rw e (record {
      long = closed_length w k.size full ∙ k.size;
      room = omega (arith, closed_many w k.size full, k.counted);
      rest = closed_rest w k.size full;
      same = closed_messages w k.size full;
      clean = λ c. clean_closed w k.size full;
    }))
    (λ e. rw e (record {
      long = k.size;
      room = (let ne = eqb-false (end_of w) 64 e in omega (arith, k.end));
      rest = λ q lt ne. refl;
      same = refl;
      clean = λ c. c;
    }))

-- A message with a number is one.
numbered : (x : Message) (n : ℕ) → x.number ≡ n + 1 → is_message x ≡ true
unfolding is_message
numbered x n e = rw (e, ne_eqb (n + 1) 0 (λ z. omega arith))

module _ (w : List ℕ) (h : sound (run_of w) ≡ true) (i j : ℕ) (li : i < count_of w) (few : word w 1 < 64) where
  known : SoundWords w
  known = sound_words w h

  abbrev r : List ℕ
  r = with_room w

  g : EnoughRoom w r
  g = with_room_lem w h few

  abbrev x : Message
  x = sent_in r i j

  whole : length x.vector ≡ 16
  unfolding sent_in
  whole = vector_length r (part_at i)

  is : is_message x ≡ true
  unfolding sent_in
  is = numbered (sent_in r i j) (wide2 r 2) refl

  abbrev a : List ℕ
  a = put_last_of r x

  long_a : length a ≡ state_size
  long_a = added_length r g.long g.room x whole is ∙ g.long

  abbrev number : ℕ
  number = wide2 r 2 + 1

  -- the message put, and the last number
  abbrev b : List ℕ
  b = puts a (puts2 2 number)

  same_last : wide2 r 2 ≡ wide2 w 2
  same_last = rw (g.rest 2 (omega arith) (λ z. omega arith), g.rest 3 (omega arith) (λ z. omega arith))

  last_then : wide2 b 2 ≡ wide2 w 2 + 1
  last_then =
      rw (
        touched a (puts2 2 number) 0 0 2 (omega arith, omega arith, omega (arith, long_a), omega arith),
        touched a (puts2 2 number) 1 0 3 (omega arith, omega arith, omega (arith, long_a), tt),
      )
      (wide2_back number ∙ ap (λ (n : ℕ). n + 1) same_last)

  b_rest : (q : ℕ) → q < 5184 → (q ≡ 1 → ⊥) → (q ≡ 2 → ⊥) → (q ≡ 3 → ⊥) → (q ≡ 12 → ⊥) → word b q ≡ word w q
  b_rest q lt n1 n2 n3 n12 =
      untouched a (puts2 2 number) q ((λ c d. n2 (omega arith)), ((λ c d. n3 (omega arith)), tt))
      ∙ added_rest r g.long g.room x whole is q lt n1 n12
      ∙ g.rest q lt n12

  only : OnlyMessages w b
  only = record {
    size = puts_length a (puts2 2 number) ∙ long_a ∙ sym known.size;
    count = b_rest 0 (omega arith) (λ z. omega arith) (λ z. omega arith) (λ z. omega arith) (λ z. omega arith);
    disk = λ q low high. b_rest q (omega arith) (λ z. omega arith) (λ z. omega arith) (λ z. omega arith) (λ z. omega arith);
    rest = λ q low high. b_rest q high (λ z. omega arith) (λ z. omega arith) (λ z. omega arith) (λ z. omega arith);
  }

  end_b : end_of b ≡ end_of a
  end_b = untouched a (puts2 2 number) 12 (omega arith)

  high_b : (q : ℕ) → 5184 ≤ q → word b q ≡ word a q
  high_b q le = untouched a (puts2 2 number) q (omega arith)

  messages_b : messages_in b ≡ under_way (run_of w) ++ (x ∷ [])
  messages_b = messages_same a b end_b high_b
      ∙ added_messages r g.long g.room x whole is
      ∙ ap (λ (l : List Message). l ++ (x ∷ [])) (g.same ∙ sym known.under_way_lem)

  fits_b : end_fits_of b ≡ true
  fits_b = end_same a b end_b high_b ∙ added_fits r g.long g.room x whole is

  counted_b : word b 1 ≡ length (messages_in b)
  counted_b =
      untouched a (puts2 2 number) 1 (omega arith)
      ∙ added_count r g.long g.room x whole is
      ∙ ap (λ (n : ℕ). n + 1) (g.rest 1 (omega arith) (λ z. omega arith) ∙ known.counted ∙ ap length (sym known.under_way_lem))
      ∙ sym (length-append (under_way (run_of w)) (x ∷ []))
      ∙ ap length (sym messages_b)

  run_b : run_of b ≡ with_messages (run_of w) (under_way (run_of w) ++ (x ∷ [])) (wide2 w 2 + 1)
  run_b = with_messages_lem w b only known.fit fits_b counted_b ∙ rw (messages_b, last_then)

  -- the mark
  abbrev v : List ℕ
  v = puts b (one (mark_at i) 1 ∷ [])

  is_sent : v ≡ sent_words w i j
  unfolding sent_words
  is_sent = refl

  room_i : i < 16
  room_i = omega (arith, known.few)

  long_b : length b ≡ state_size
  long_b = puts_length a (puts2 2 number) ∙ long_a

  mark_only : OnlyProcess b v i
  mark_only = record {
    size = puts_length b (one (mark_at i) 1 ∷ []);
    front = λ q lt nh nm. untouched b (one (mark_at i) 1 ∷ []) q ((λ c d. nm (omega arith)), tt);
    lower = λ q low lt. untouched b (one (mark_at i) 1 ∷ []) q (omega (arith, room_i));
    upper = λ q low. untouched b (one (mark_at i) 1 ∷ []) q (omega (arith, room_i));
  }

  same : (q : ℕ) → q < 5184 → 13 ≤ q → (q ≡ mark_at i → ⊥) → word v q ≡ word w q
  same q lt low nm =
      untouched b (one (mark_at i) 1 ∷ []) q ((λ c d. nm (omega arith)), tt)
      ∙ b_rest q lt (λ z. omega arith) (λ z. omega arith) (λ z. omega arith) (λ z. omega arith)

  same_kept_count : word v (kept_count_at_of i) ≡ word w (kept_count_at_of i)
  same_kept_count = same (kept_count_at_of i) (omega (arith, room_i)) (omega arith) (λ z. omega (arith, room_i))

  mark_v : mark_in v i ≡ true
  unfolding mark_in
  mark_v = rw (touched b (one (mark_at i) 1 ∷ []) 0 0 (mark_at i) (omega arith, omega arith, omega (arith, long_b, room_i), tt))

  process_v : process_in v i ≡ marked (process (run_of w) i)
  unfolding process_in marked
  process_v = rw (
    process_is w known.fit i li known.few,
    vector_same v w (part_at i) (part_at i) (λ f lt. same (part_at i + f) (omega (arith, room_i)) (omega arith) (λ z. omega (arith, room_i))),
    pins_same v w (pins_at_of i) (pins_at_of i) (λ f lt. same (pins_at_of i + f) (omega (arith, room_i)) (omega arith) (λ z. omega (arith, room_i))),
    mark_v,
    same_kept_count,
    kept_same v w i (same_kept_count) (same (blocks_at_of i) (omega (arith, room_i)) (omega arith) (λ z. omega (arith, room_i)))
        (λ k low high. same k (omega (arith, room_i)) (omega arith) (λ z. omega (arith, room_i))),
  )

  run_v : run_of v ≡ with_process (run_of b) i (marked (process (run_of w) i))
  run_v = with_process_lem b v i (messages_fit w b only known.fit fits_b)
      (omega (arith, only.count)) (omega (arith, only.count, known.few)) mark_only
      (omega (arith, same_kept_count, (known.parts i li).kept_count_most, known.few))
      ∙ ap (with_process (run_of b) i) process_v

  message_is : x ≡ sent_message (run_of w) i j
  unfolding sent_in sent_message process_in
  message_is = rw (
    process_is w known.fit i li known.few,
    last_is_lem w known.fit,
    same_last,
    vector_same r w (part_at i) (part_at i) (λ f lt. g.rest (part_at i + f) (omega (arith, room_i)) (λ z. omega arith)),
  )

  pub sent_run : run_of (sent_words w i j) ≡ send_state (run_of w) i j
  unfolding send_state with_process with_messages
  sent_run = ap run_of (sym is_sent) ∙ run_v ∙ rw (run_b, message_is, last_is_lem w known.fit)

  pub sent_leaves : Leaves w (sent_words w i j)
  sent_leaves = rw (← is_sent) (record {
    size = mark_only.size ∙ only.size;
    clean = λ c.
        let cb = clean_messages w b known.few only (clean_messages_same a b end_b high_b (clean_added r g.long g.room x whole is (g.clean c.messages))) c in
        clean_process b v i (omega (arith, only.count)) (omega (arith, only.count, known.few)) mark_only
        (clean_kept_same b v i (untouched b (one (mark_at i) 1 ∷ []) (kept_count_at_of i) (omega (arith, room_i))) (λ k low high. untouched b (one (mark_at i) 1 ∷ []) k (omega (arith, room_i))) (cb.kept i (omega (arith, only.count))))
        cb;
  })

-- The verdict of the words, and what follows from it.
module _ (w : List ℕ) (h : sound (run_of w) ≡ true) (i j : ℕ) where
  rules : send_refusal (run_of w) i j ≡ refusal_of (send_admission_of i j (count_of w) (word w 1) (wide2 w 2))
  unfolding send_refusal
  rules =
      let k = sound_words w h in
      skipped (unsound (run_of w)) _ (rw h)
      ∙ rw (count_is_lem w k.fit, underway_is w k.fit, last_is_lem w k.fit) (sym (admission_rules i j (count_of w) (word w 1) (wide2 w 2)))

  pub send_refused : (why : Refusal) → send_admission_of i j (count_of w) (word w 1) (wide2 w 2) ≡ Err why
      → send_outcome (run_of w) i j ≡ record { run = run_of w; answer = Err why; rose = 0; deleted = []; line = [] }
  unfolding send_outcome refusal_of
  send_refused why e = let judged : send_refusal (run_of w) i j ≡ Some why = rules ∙ ap refusal_of e in rw judged

  module _ (e : send_admission_of i j (count_of w) (word w 1) (wide2 w 2) ≡ Ok tt) where
    pub send_places : (i < count_of w) × (j < count_of w) × (word w 1 < 64) × (wide2 w 2 < 1000000)
    send_places = accepted_send i j (count_of w) (word w 1) (wide2 w 2) e

    pub send_accepted : send_outcome (run_of w) i j ≡ record { run = run_of (sent_words w i j); answer = Ok (wide2 w 2 + 1); rose = 0; deleted = []; line = [] }
    unfolding send_outcome refusal_of
    send_accepted =
        let judged : send_refusal (run_of w) i j ≡ None = rules ∙ ap refusal_of e in
        rw (judged, sent_run w h i j send_places.0 send_places.2, last_is_lem w (sound_words w h).fit)
