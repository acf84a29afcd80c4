-- `in_place::send::send_on` meets its contract. Assumes nothing.
use Rattle.std.specs.Prelude.{◌≡◌, ◌+◌, Err, Ok}
use Rattle.laws.specs.Basics.{refl, sym, ◌∙◌, ap, true, List, ℕ, arith, rules}
use Prim.{tt}
use Rattle.admissions.specs.Admissions.{send_admission_of}
use Rattle.model.specs.{declared.Refusal.Refusal, Sound.sound}
use Rattle.whole_runs.specs.Outcomes.{send_outcome}
use Rattle.words.specs.Layout.{word, wide2, count_of, run_of}
use Rattle.in_place.specs.{Left.Leaves, Sending.sent_words}
use Rattle.in_place.proofs.{Leaving.same_words, Sending.send_refused, Sending.send_places, Sending.send_accepted, Sending.sent_leaves}
use Rattle.words.proofs.ViewSound.{sound_words}
use Rattle.in_place.proofs.send.send_on.Goals as goal

-- What the words then are, put together.
sent : (w : List ℕ) (h : sound (run_of w) ≡ true) (i j : ℕ) → send_admission_of i j (count_of w) (word w 1) (wide2 w 2) ≡ Ok tt → (v : List ℕ) (n : ℕ) → v ≡ sent_words w i j → n ≡ wide2 w 2 + 1
    → (run_of v ≡ (send_outcome (run_of w) i j).run) × ((Ok n ≡ (send_outcome (run_of w) i j).answer) × (((why : Refusal) → Ok n ≡ Err why → v ≡ w) × Leaves w v))
sent w h i j e v n q r =
    let p = send_places w h i j e in
    rw (q, r, send_accepted w h i j e) (refl, (refl, (λ why z. absurd (let y : ◌≡◌ {A = ℕ} 0 1 = cc in omega arith), sent_leaves w h i j p.0 p.2)))

pub bounds-w-0 : goal.bounds-w-0
bounds-w-0 c =
    omega (arith, (sound_words c.args.w.now c.requires).size)

pub overflow_cast-n : goal.overflow_cast-n
overflow_cast-n c =
    omega (arith, c.slice_known-2-1.given 0)

pub bounds-w-1 : goal.bounds-w-1
bounds-w-1 c =
    omega (arith, (sound_words c.args.w.now c.requires).size)

pub overflow_cast-many : goal.overflow_cast-many
overflow_cast-many c =
    omega (arith, c.slice_known-3-1.given 1)

pub wide2-last-requires : goal.wide2-last-requires
wide2-last-requires c =
    omega (arith, (sound_words c.args.w.now c.requires).size)

pub put_sent-number-requires : goal.put_sent-number-requires
put_sent-number-requires c =
    let judged : let a = c.args in send_admission_of a.i a.j (word a.w.now 0) (word a.w.now 1) (wide2 a.w.now 2) ≡ c.send_admission-admission.result = let a = c.args in ap (send_admission_of a.i a.j (word a.w.now 0) (word a.w.now 1)) (sym c.wide2-last.ensures) ∙ sym c.send_admission-admission.ensures in
    let accepted : c.send_admission-admission.result ≡ Ok tt = search rules in
    let p = send_places c.args.w.now c.requires c.args.i c.args.j (judged ∙ accepted) in (c.requires, p.0, p.1, p.2, p.3)

pub returns-in-Err : goal.returns-in-Err
returns-in-Err c =
    let judged : let a = c.args in send_admission_of a.i a.j (word a.w.now 0) (word a.w.now 1) (wide2 a.w.now 2) ≡ c.send_admission-admission.result = let a = c.args in ap (send_admission_of a.i a.j (word a.w.now 0) (word a.w.now 1)) (sym c.wide2-last.ensures) ∙ sym c.send_admission-admission.ensures in
    rw (send_refused c.args.w.now c.requires c.args.i c.args.j _ (judged ∙ c.in-Err.is)) (record { w_after = refl; value = refl; w_unchanged = λ why q. refl; leaves = same_words c.args.w.now })

pub shape_of-w-in-Ok : goal.shape_of-w-in-Ok
shape_of-w-in-Ok c =
    c.put_sent-number.auto.w

pub returns-in-Ok : goal.returns-in-Ok
returns-in-Ok c =
    let judged : let a = c.args in send_admission_of a.i a.j (word a.w.now 0) (word a.w.now 1) (wide2 a.w.now 2) ≡ c.send_admission-admission.result = let a = c.args in ap (send_admission_of a.i a.j (word a.w.now 0) (word a.w.now 1)) (sym c.wide2-last.ensures) ∙ sym c.send_admission-admission.ensures in
    let accepted : c.send_admission-admission.result ≡ Ok tt = search rules in
    let z = sent c.args.w.now c.requires c.args.i c.args.j (judged ∙ accepted) _ _ c.put_sent-number.ensures.0 c.put_sent-number.ensures.1 in record { w_after = z.0; value = z.1.0; w_unchanged = z.1.1.0; leaves = z.1.1.1 }
