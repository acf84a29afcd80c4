-- The checkpoints that are listed to a caller: of one process, and of the processes passed so far.
-- Assumes nothing.
use Rattle.std.specs.Prelude.{◌≡◌, ◌∷◌, ◌++◌, ◌+◌, ◌*◌, ◌≤◌, ◌<◌, Err, Ok}
use Rattle.laws.specs.Basics.{refl, sym, ◌∙◌, ap, Bool, true, false, not, List, [], Option, None, Some, ℕ, suc, arith, ltb, length, length-append, sets, pick, by_bool}
use native.Mathlib.Nat.{suc-mul, mul-le-mul_right, mul_assoc}
use native.Mathlib.Numerals.{add-one}
use Rattle.laws.specs.{Lists.table, Lists.gather, Tables.length_table, Tables.gather_same, Written.sets_after}
use Rattle.model.specs.declared.{Checkpoint.Checkpoint, Refusal.Refusal, Run.Run}
use Rattle.model.specs.declared.Refusal.TheVariants.{Denied, UnsoundState, ListTooShort}
use Rattle.model.specs.{Refusals.first_of, Sound.sound, Words.process, Steps.Deletion, Steps.listed}
use Rattle.whole_runs.specs.Outcomes.{Outcome, judged, pairs}
use Rattle.whole_runs.proofs.whole.{Pairs.length_pairs, Gone.pairs_append}
use Rattle.words.specs.Layout.{word, count_of, kept_count_at_of, checkpoint_in, run_of}
use Rattle.words.proofs.{View.count_is_lem, ViewSound.sound_words, ViewSound.sound_kept_is}
use Rattle.theory_roles.specs.Console.{ListAnswer}
use Rattle.theory_roles.specs.declared.{Role.Role, Caller.Caller, Operation.TheVariants.List as Catalogue}
use Rattle.theory_roles.specs.Console.{may, denied, entitled, entitled_by, listed_to, list_refusal, console_list}
use Rattle.library_console.specs.{Asked.claim_of, Asked.asked, Asked.list_as, Listed.listed_of, Listed.listed_below}

length_listed : (p : ℕ) (l : List Checkpoint) → length (listed p l) ≡ length l
unfolding listed
length_listed p [] = refl
length_listed p (c ∷ l) = ap (λ (n : ℕ). suc n) (length_listed p l)

listed_append : (p : ℕ) (l m : List Checkpoint) → listed p (l ++ m) ≡ listed p l ++ listed p m
unfolding listed
listed_append p [] m = refl
listed_append p (c ∷ l) m = ap (λ (r : List Deletion). record { process = p; index = c.index } ∷ r) (listed_append p l m)

-- The checkpoints of one process, one after the other.
module _ (p : ℕ) (f : ℕ → Checkpoint) where
  pub none_written : (lent : List ℕ) (at : ℕ) → lent ≡ sets lent at (pairs (listed p (table 0 f)))
  unfolding table listed pairs
  none_written lent at = refl

  pub one_written : (lent out : List ℕ) (at k : ℕ) → out ≡ sets lent at (pairs (listed p (table k f)))
      → sets out (at + 2 * k) (p ∷ (f k).index.0 ∷ []) ≡ sets lent at (pairs (listed p (table (k + 1) f)))
  unfolding table listed pairs
  one_written lent out at k so_far =
      let long : length (pairs (listed p (table k f))) ≡ 2 * k = length_pairs (listed p (table k f)) ∙ ap (λ (j : ℕ). 2 * j) (length_listed p (table k f) ∙ length_table k f) in
      let more : pairs (listed p (table k f)) ++ (p ∷ (f k).index.0 ∷ []) ≡ pairs (listed p (table (k + 1) f)) =
      rw (add-one k, listed_append p (table k f) (f k ∷ []), pairs_append (listed p (table k f)) (listed p (f k ∷ []))) refl in
      sets_after lent out at (at + 2 * k) (pairs (listed p (table k f))) so_far (omega (arith, long)) (p ∷ (f k).index.0 ∷ []) ∙ ap (λ (l : List ℕ). sets lent at l) more

-- One process: nothing of it is listed, or all that it keeps.
module _ (r : Role) (owned n : ℕ) (w : List ℕ) where
  pub unseen : (p : ℕ) (lent : List ℕ) (at : ℕ) → entitled_by r owned n p ≡ false → (0 ≡ length (listed_of r owned n w p)) × (lent ≡ sets lent at (pairs (listed_of r owned n w p)))
  unfolding listed_of pairs
  unseen p lent at e = rw e (refl, refl)

  pub seen : (p : ℕ) (lent out : List ℕ) (at : ℕ) → entitled_by r owned n p ≡ true → out ≡ sets lent at (pairs (listed p (table (word w (kept_count_at_of p)) (checkpoint_in w p))))
      → (word w (kept_count_at_of p) ≡ length (listed_of r owned n w p)) × (out ≡ sets lent at (pairs (listed_of r owned n w p)))
  unfolding listed_of
  seen p lent out at e wrote = rw e (sym (length_listed p (table (word w (kept_count_at_of p)) (checkpoint_in w p)) ∙ length_table (word w (kept_count_at_of p)) (checkpoint_in w p)), wrote)

  listed_few : (p : ℕ) → length (listed_of r owned n w p) ≤ word w (kept_count_at_of p)
  unfolding listed_of
  listed_few p = by_bool (entitled_by r owned n p)
      (λ e. rw e (omega (arith, length_listed p (table (word w (kept_count_at_of p)) (checkpoint_in w p)), length_table (word w (kept_count_at_of p)) (checkpoint_in w p))))
      (λ e. rw e (omega arith))

  -- The first q processes are listed, and the list has their pairs.
  pub record Listing (lent out : List ℕ) (count q : ℕ) : Type 0 where
    pub within : q ≤ n
    pub few : count ≤ 16 * q
    pub fits : count ≤ q * n
    pub long : length out ≡ length lent
    pub many : count ≡ length (listed_below r owned n w q)
    pub wrote : out ≡ sets lent 0 (pairs (listed_below r owned n w q))

  room : (q count h : ℕ) → q < n → count ≤ q * n → h ≤ n → 2 * count + 2 * h ≤ 2 * n * n
  room q count h lt so_far few =
      let next : suc q * n ≤ n * n = mul-le-mul_right n lt in
      let apart : suc q * n ≡ q * n + n = suc-mul q n in
      let whole : 2 * n * n ≡ 2 * (n * n) = mul_assoc 2 n n in
      rw whole (omega arith)

  more_fit : (q count more : ℕ) → count ≤ q * n → more ≤ n → count + more ≤ (q + 1) * n
  more_fit q count more so_far few =
      let apart : (q + 1) * n ≡ q * n + n = rw (add-one q) (suc-mul q n) in
      rw apart (omega arith)

  pub none_listed : (lent : List ℕ) → Listing lent lent 0 0
  unfolding listed_below gather pairs
  none_listed lent = record { within = omega arith; few = omega arith; fits = omega arith; long = refl; many = refl; wrote = refl }

  module _ (lent out : List ℕ) (count q : ℕ) (so_far : Listing lent out count q) (most : n ≤ 16) (lt : q < n) (bounded : word w (kept_count_at_of q) ≤ n) where
    pub row_room : 2 * n * n ≤ length lent → 2 * count + 2 * word w (kept_count_at_of q) ≤ length out
    row_room size = omega (arith, room q count (word w (kept_count_at_of q)) lt so_far.fits bounded, so_far.long, size)

    pub count_few : count ≤ 256
    count_few = omega (arith, so_far.few, most, lt)

    more_few : (more : ℕ) → more ≡ length (listed_of r owned n w q) → more ≤ word w (kept_count_at_of q)
    more_few more e = omega (arith, e, listed_few q)

    pub sum_few : (more : ℕ) → more ≡ length (listed_of r owned n w q) → count + more ≤ 512
    sum_few more e = omega (arith, count_few, more_few more e, bounded, most)

    -- one process more
    pub one_listed : (next : List ℕ) (more : ℕ) → more ≡ length (listed_of r owned n w q) → next ≡ sets out (2 * count) (pairs (listed_of r owned n w q))
        → length next ≡ length out → Listing lent next (count + more) (q + 1)
    unfolding listed_below gather
    one_listed next more e wrote same = record {
      within = omega arith;
      few = omega (arith, so_far.few, more_few more e, bounded, most);
      fits = more_fit q count more so_far.fits (omega (arith, more_few more e, bounded));
      long = same ∙ so_far.long;
      many = rw (add-one q, length-append (listed_below r owned n w q) (listed_of r owned n w q)) (omega (arith, so_far.many, e));
      wrote = rw (add-one q) (wrote
          ∙ sets_after lent out 0 (2 * count) (pairs (listed_below r owned n w q)) so_far.wrote (omega (arith, so_far.many, length_pairs (listed_below r owned n w q))) (pairs (listed_of r owned n w q))
          ∙ ap (λ (l : List ℕ). sets lent 0 l) (sym (pairs_append (listed_below r owned n w q) (listed_of r owned n w q))));
    }

  -- all of them
  pub all_listed : (lent out : List ℕ) (count q : ℕ) → q ≡ n → Listing lent out count q
      → (count ≡ length (listed_below r owned n w n)) × (out ≡ sets lent 0 (pairs (listed_below r owned n w n)))
  all_listed lent out count q e so_far = (rw e at so_far.many, rw e at so_far.wrote)

-- By the run that the words stand for.
pub list_is : (r : Role) (owned : ℕ) (w : List ℕ) → sound (run_of w) ≡ true → listed_below r owned (count_of w) w (count_of w) ≡ listed_to (record { role = r; owned = owned }) (run_of w)
unfolding listed_below listed_of listed_to entitled
list_is r owned w h =
    gather_same (count_of w) (λ p. pick (entitled_by r owned (count_of w) p) (listed p (table (word w (kept_count_at_of p)) (checkpoint_in w p))) []) (λ p. pick (entitled_by r owned (count_of w) p) (listed p (process (run_of w) p).kept) [])
    (λ p lt. ap (λ (l : List Checkpoint). pick (entitled_by r owned (count_of w) p) (listed p l) []) (sym (sound_kept_is w h p lt)))
    ∙ ap (λ (n : ℕ). gather n (λ p. pick (entitled_by r owned n p) (listed p (process (run_of w) p).kept) [])) (sym (count_is_lem w (sound_words w h).fit))

-- The list of one role: what the table says of it, 2, 3 and the pairs.
module _ (r : Role) (owned : ℕ) (w lent : List ℕ) where
  abbrev c : Caller
  c = record { role = r; owned = owned }

  abbrev pub ListIs : ListAnswer → List ℕ → Type 0
  ListIs a l = (a ≡ (console_list c (run_of w) lent).answer) × (l ≡ (console_list c (run_of w) lent).deleted)

  module _ {b : Bool} (e : b ≡ may r Catalogue) where
    pub list_denied : not b ≡ true → ListIs (Err Denied) lent
    unfolding console_list denied
    list_denied t = rw (sym (ap not e) ∙ t) (refl, refl)

    module _ (t : not b ≡ false) where
      pub list_unsound : sound (run_of w) ≡ false → ListIs (Err UnsoundState) lent
      unfolding console_list denied list_refusal first_of
      list_unsound h = rw (sym (ap not e) ∙ t, h) (refl, refl)

      module _ (h : sound (run_of w) ≡ true) where
        counted : ltb (length lent) (2 * (run_of w).count * (run_of w).count) ≡ ltb (length lent) (2 * count_of w * count_of w)
        counted = ap (λ (n : ℕ). ltb (length lent) (2 * n * n)) (count_is_lem w (sound_words w h).fit)

        pub list_short : ltb (length lent) (2 * count_of w * count_of w) ≡ true → ListIs (Err ListTooShort) lent
        unfolding console_list denied list_refusal first_of
        list_short short = rw (sym (ap not e) ∙ t, h, counted ∙ short) (refl, refl)

        pub list_made : ltb (length lent) (2 * count_of w * count_of w) ≡ false → (count : ℕ) (out : List ℕ) → count ≡ length (listed_below r owned (count_of w) w (count_of w))
            → out ≡ sets lent 0 (pairs (listed_below r owned (count_of w) w (count_of w))) → ListIs (Ok count) out
        unfolding console_list denied list_refusal first_of
        list_made long count out many wrote =
            rw (sym (ap not e) ∙ t, h, counted ∙ long) (ap Ok (many ∙ ap length (list_is r owned w h)), wrote ∙ ap (λ (l : List Deletion). sets lent 0 (pairs l)) (list_is r owned w h))

-- And by the number of a role. No list changes the run.
list_leaves : (c : Caller) (s : Run) (lent : List ℕ) → s ≡ (console_list c s lent).run
unfolding console_list
list_leaves c s lent = by_bool (denied c Catalogue) (λ e. rw e) (λ e. rw e (left (list_refusal s lent)))
  where
    left : (o : Option Refusal) → s ≡ (judged {A = Outcome ListAnswer} o
        (λ r. record { run = s; answer = Err r; rose = 0; deleted = lent; line = [] })
        (record { run = s; answer = Ok (length (listed_to c s)); rose = 0; deleted = sets lent 0 (pairs (listed_to c s)); line = [] })).run
    left None = refl
    left (Some r) = refl

module _ (role owned : ℕ) (s : Run) (lent : List ℕ) {q : Option Role} (e : q ≡ claim_of role) where
  pub list_unknown : q ≡ None → (s ≡ (list_as role owned s lent).run) × ((Err Denied ≡ (list_as role owned s lent).answer) × (lent ≡ (list_as role owned s lent).deleted))
  unfolding list_as asked
  list_unknown u = rw (sym e ∙ u) (refl, (refl, refl))

  pub list_known : (r : Role) → q ≡ Some r → {a : ListAnswer} {out : List ℕ} → a ≡ (console_list (record { role = r; owned = owned }) s lent).answer
      → out ≡ (console_list (record { role = r; owned = owned }) s lent).deleted
      → (s ≡ (list_as role owned s lent).run) × ((a ≡ (list_as role owned s lent).answer) × (out ≡ (list_as role owned s lent).deleted))
  unfolding list_as asked
  list_known r u answered wrote = rw (sym e ∙ u) (list_leaves (record { role = r; owned = owned }) s lent, (answered, wrote))
