-- A message looked up in the words is the one that the run has under way; taken out of them it is lost.
-- Assumes nothing.
use Rattle.std.specs.Prelude.{◌≡◌, ◌&&◌, ◌≤◌, ◌<◌, Err, Ok}
use Rattle.laws.specs.Basics.{refl, sym, ◌∙◌, ap, true, false, not, List, [], None, Some, ℕ, zero, suc, arith, eqb, length, eq-eqb, ne_eqb, by_bool, by_eq}
use Rattle.laws.specs.{Lists.select, Lists.last_of, Lists.table, Prefixes.select_none, Rows.by_lt, Select.select_select}
use Rattle.model.specs.{declared.Message.Message, declared.Refusal.TheVariants.NotUnderWay, declared.Run.Run, laws.Refusals.refusal_in}
use Rattle.model.specs.{Words.with_messages, Steps.found, Steps.others, Steps.lose_state, Sound.sound, Refusals.lose_refusal}
use Rattle.whole_runs.specs.Outcomes.{lose_outcome}
use Rattle.words.specs.{Layout.word, Layout.wide2, Layout.end_of, Layout.message_in, Layout.is_message, Layout.messages_in, Layout.run_of, Frames.OnlyMessages}
use Rattle.words.proofs.{View.last_is_lem, ViewChange.with_messages_lem, ViewClean.clean_messages, ViewSound.SoundWords, ViewSound.sound_words}
use Rattle.words.specs.messages.Places.{place_below, place_of, found_at, taken_out}
use Rattle.words.proofs.messages.Selected.{message_at, found_below, place_under, place_number, is_one}
use Rattle.words.proofs.messages.Zeros.{clean_taken}
use Rattle.in_place.specs.Left.{Leaves}
use Rattle.words.proofs.messages.Taken.{taken_length, taken_count, taken_rest, taken_fits, taken_others, taken_many}
use Prim.{tt}

-- Where nothing was found, and where something was.
pub nothing : (k : ℕ) → None ≡ found_at k → k ≡ 0
unfolding found_at
nothing zero e = refl
nothing (suc k) e = absurd (let z : ◌≡◌ {A = ℕ} 0 1 = cc in omega arith)

pub there : (k j : ℕ) → Some j ≡ found_at k → k ≡ suc j
unfolding found_at
there zero j e = absurd (let z : ◌≡◌ {A = ℕ} 0 1 = cc in omega arith)
there (suc k) j e = ap suc (let z : j ≡ k = cc in sym z)

-- No message has number 0.
no_number_zero : (x : Message) → (is_message x && eqb x.number 0) ≡ false
unfolding is_message
no_number_zero x = by_bool (eqb x.number 0) (λ e. rw e) (λ e. rw e)

none_unpinned : (l : List Message) → last_of (select (λ x. eqb x.number 0) (select is_message l)) ≡ None
unfolding last_of
none_unpinned l = ap last_of (select_select (λ x. eqb x.number 0) is_message l ∙ select_none (λ x. is_message x && eqb x.number 0) l no_number_zero)

module _ (w : List ℕ) (h : sound (run_of w) ≡ true) (m : ℕ) where
  abbrev s : Run
  s = run_of w

  known : SoundWords w
  known = sound_words w h

  pub found_is : found s m ≡ message_at w (place_of w m)
  unfolding found place_of messages_in message_at
  found_is = ap (λ (l : List Message). last_of (select (λ x. eqb x.number m) l)) known.under_way_lem ∙ by_eq m 0
      (λ e. rw e (none_unpinned (table (end_of w) (message_in w))))
      (λ ne. rw (ne_eqb m 0 ne) (found_below w m ne (end_of w)))

  pub lose_refused : place_of w m ≡ 0 → lose_outcome s m ≡ record { run = s; answer = Err NotUnderWay; rose = 0; deleted = []; line = [] }
  unfolding lose_outcome lose_refusal message_at
  lose_refused e =
      let gone : found s m ≡ None = found_is ∙ ap (message_at w) e in
      let judged : lose_refusal s m ≡ Some NotUnderWay = refusal_in _ (Some NotUnderWay) (1, (rw h, tt), rw gone, refl) in
      rw judged

  module _ (k : ℕ) (e : place_of w m ≡ suc k) where
    pub some_number : m ≡ 0 → ⊥
    unfolding place_of
    some_number z = let q : 0 ≡ suc k = rw (eq-eqb m 0 z) at e in omega arith

    below : place_below w m (end_of w) ≡ suc k
    unfolding place_of
    below = rw (ne_eqb m 0 some_number) at e

    pub place_in : k < end_of w
    place_in = omega (arith, place_under w m (end_of w), below)

    pub its_number : (message_in w k).number ≡ m
    its_number = place_number w m (end_of w) k below

    used : is_message (message_in w k) ≡ true
    used = is_one (message_in w k) m some_number its_number

    pub alone : (j : ℕ) → j < end_of w → (message_in w j).number ≡ m → j ≡ k
    alone j lt q =
        let is = is_one (message_in w j) m some_number q in
        by_lt j k
        (λ less. absurd (let z = known.ascend j k less place_in is used in omega (arith, its_number)))
        (λ more. by_eq j k (λ r. r) (λ ne. absurd (let z = known.ascend k j (omega arith) lt used is in omega (arith, its_number))))

    abbrev v : List ℕ
    v = taken_out w k

    pub taken_only : OnlyMessages w v
    taken_only = record {
      size = taken_length w known.size known.end k place_in;
      count = taken_rest w known.size known.end k place_in 0 (omega arith) (λ q. omega arith) (λ q. omega arith);
      disk = λ q low high. taken_rest w known.size known.end k place_in q (omega arith) (λ z. omega arith) (λ z. omega arith);
      rest = λ q low high. taken_rest w known.size known.end k place_in q high (λ z. omega arith) (λ z. omega arith);
    }

    left : messages_in v ≡ others s m
    unfolding others
    left = taken_others w known.size known.end k place_in m some_number its_number alone
        ∙ ap (select (λ x. not (eqb x.number m))) (sym known.under_way_lem)

    pub counted : word v 1 ≡ length (messages_in v)
    counted = omega (arith, taken_count w known.size known.end k place_in, known.counted, taken_many w known.size known.end k place_in m some_number its_number alone)

    last_stays : wide2 v 2 ≡ s.last
    last_stays = rw (
      taken_rest w known.size known.end k place_in 2 (omega arith) (λ q. omega arith) (λ q. omega arith),
      taken_rest w known.size known.end k place_in 3 (omega arith) (λ q. omega arith) (λ q. omega arith),
    ) (sym (last_is_lem w known.fit))

    pub taken_run : run_of v ≡ with_messages s (others s m) s.last
    taken_run = with_messages_lem w v taken_only known.fit (taken_fits w known.size known.end k place_in) counted
        ∙ rw (left, last_stays)

    pub lose_accepted : lose_outcome s m ≡ record { run = run_of v; answer = Ok tt; rose = 0; deleted = []; line = [] }
    unfolding lose_outcome lose_refusal lose_state message_at
    lose_accepted =
        let there : found s m ≡ Some (message_in w k) = found_is ∙ ap (message_at w) e in
        let judged : lose_refusal s m ≡ None = refusal_in _ None (rw h, (rw there, tt)) in
        rw (judged, taken_run)

    pub one_there : 1 ≤ word w 1
    one_there = omega (arith, known.counted, taken_many w known.size known.end k place_in m some_number its_number alone)

    pub taken_leaves : Leaves w v
    taken_leaves = record {
      size = taken_only.size;
      clean = λ c. clean_messages w v known.few taken_only (clean_taken w known.size known.end k place_in c.messages) c;
    }
