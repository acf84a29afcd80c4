-- The bytes of a log.
-- Assumes nothing.
use Rattle.std.specs.Prelude.{◌≡◌, ◌∷◌, ◌+◌, ◌*◌, ◌/◌, ◌%◌, ◌^◌, ◌≤◌, ◌<◌}
use borrow.Rule.Slice.PartMut.{put_mid}
use lib.Seq.{sets-eq}
use Rattle.std.proofs.Common.{take-append-drop}
use Rattle.std.proofs.lemmas.Slice.{take-put_mid, drop-put_mid}
use Rattle.std.proofs.lemmas.List.{get_or-take}
use Rattle.laws.specs.Basics.{refl, sym, ◌∙◌, List, [], ℕ, zero, suc, arith, length, get_or, take, length-append, sets}
use native.Mathlib.Numerals.{add-one}
use Rattle.laws.specs.Written.{sets_after}
use Rattle.model.specs.Trace.{bytes_of_def}
use Rattle.theory_merges.specs.{Halves.HalfEvent, Merge.plain_bytes}
use Rattle.theory_merges.proofs.Replaying.{four_bytes}
use Rattle.library_halves.specs.Log.{word_in_of, Logged, bytes_up_to}

-- A part that is copied over is what stores of its entries one by one make.
pub put_sets : (at k : ℕ) (out xs : List ℕ) → length xs ≡ k → at + k ≤ length out → put_mid at k out xs ≡ sets out at xs
put_sets at k out xs e h =
    let n = at + length xs in
    sym (take-append-drop n (put_mid at k out xs))
    ∙ rw (take-put_mid at k out xs n refl (omega arith), drop-put_mid at k out xs n (omega (arith, e)) (omega arith) e)
    (sym (sets-eq xs out at (omega (arith, e))))

-- The four bytes of a word, most significant first.
pub word_bytes : (w : ℕ) → w < 2 ^ 32 → w / 16777216 % 256 ∷ w / 65536 % 256 ∷ w / 256 % 256 ∷ w % 256 ∷ [] ≡ bytes_of_def w
unfolding bytes_of_def
word_bytes w h = let e : w / 16777216 % 256 ≡ w / 16777216 = omega arith in rw e

pub bytes_none : (out log : List ℕ) → out ≡ sets out 1 (bytes_up_to 0 log)
unfolding bytes_up_to
bytes_none out log = refl

pub bytes_length : (k : ℕ) (log : List ℕ) → length (bytes_up_to k log) ≡ 4 * k
unfolding bytes_up_to
bytes_length zero log = refl
bytes_length (suc k) log = length-append (bytes_up_to k log) (bytes_of_def (get_or log k 0)) ∙ omega (arith, bytes_length k log, four_bytes (get_or log k 0))

pub bytes_next : (out₀ out log : List ℕ) (i : ℕ) → out ≡ sets out₀ 1 (bytes_up_to i log) → sets out (1 + 4 * i) (bytes_of_def (get_or log i 0)) ≡ sets out₀ 1 (bytes_up_to (i + 1) log)
unfolding bytes_up_to
bytes_next out₀ out log i e =
    let p : 1 + 4 * i ≡ 1 + length (bytes_up_to i log) = omega (arith, bytes_length i log) in
    rw (add-one i) (sets_after out₀ out 1 (1 + 4 * i) (bytes_up_to i log) e p (bytes_of_def (get_or log i 0)))

-- The words that are written are those up to where the log ends.
pub bytes_front : (k m : ℕ) (log : List ℕ) → k ≤ m → bytes_up_to k (take m log) ≡ bytes_up_to k log
unfolding bytes_up_to
bytes_front zero m log h = refl
bytes_front (suc k) m log h = rw (bytes_front k m log (omega arith), get_or-take m log k 0 (omega arith))

pub logged_bytes : (log : List ℕ) (l : List HalfEvent) → Logged l log → bytes_up_to (length l) log ≡ plain_bytes l
unfolding bytes_up_to Logged plain_bytes word_in_of
logged_bytes log [] h = refl
logged_bytes log (x ∷ l) (w, f, h) = rw (logged_bytes log l h, w)
