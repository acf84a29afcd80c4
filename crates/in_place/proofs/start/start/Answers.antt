-- `in_place::start::start` meets its contract. Assumes nothing.
use Rattle.std.specs.Prelude.{◌≡◌, ◌≤◌, Err, Ok}
use Rattle.laws.specs.Basics.{refl, sym, ◌∙◌, ap, List, [], None, Some, ℕ, arith, length, rules, eq-eqb, ne_eqb}
use Prim.{tt}
use Rattle.model.specs.Shapes.{StartAnswer}
use Rattle.model.specs.declared.Refusal.{Refusal}
use Rattle.model.specs.{laws.Refusals.by_refusal}
use Rattle.whole_runs.specs.WholeRuns.{StartPromise}
use Rattle.words.specs.{Layout.state_size, Layout.run_of, Clean.Clean}
use Rattle.in_place.specs.Starting.{zeros, started_words, start_refusal_in, start_outcome_in, start_words}
use Rattle.in_place.proofs.{Judging.by_answer, Judging.started_promise}
use Rattle.in_place.proofs.Starting.{start_run, start_clean, accepted_few, accepted_size, accepted_long, accepted_counts}
use Rattle.in_place.proofs.start.start.Goals as goal

by_refused : (many n : ℕ) (blockCounts : List ℕ) (why : Refusal) → (start_outcome_in many n blockCounts).answer ≡ Err why → start_refusal_in many n blockCounts ≡ Some why
unfolding start_outcome_in
by_refused many n blockCounts why e = by_refusal (start_refusal_in many n blockCounts)
    (λ f. absurd (let z : (Ok tt) ≡ Err why = rw f at e in let y : ◌≡◌ {A = ℕ} 0 1 = cc in omega arith))
    (λ other q. q ∙ ap Some (let z : Err other ≡ Err why = rw q at e in let y : other ≡ why = cc in y))

-- What the words then are, in the three ways.
untouched_words : (w : List ℕ) (n : ℕ) (blockCounts : List ℕ) → (length w ≡ state_size → ⊥) → w ≡ start_words w n blockCounts
unfolding start_words
untouched_words w n blockCounts ne = by_refusal (start_refusal_in (length w) n blockCounts)
    (λ f. absurd (ne (accepted_size (length w) n blockCounts f)))
    (λ why q. rw (q, ne_eqb (length w) state_size ne) refl)

zero_words : (w v : List ℕ) (n : ℕ) (blockCounts : List ℕ) (why : Refusal) → length w ≡ state_size → start_refusal_in (length w) n blockCounts ≡ Some why → v ≡ zeros → v ≡ start_words w n blockCounts
unfolding start_words
zero_words w v n blockCounts why long q e = rw (q, eq-eqb (length w) state_size long) e

first_words : (w v : List ℕ) (n : ℕ) (blockCounts : List ℕ) → start_refusal_in (length w) n blockCounts ≡ None → v ≡ started_words n blockCounts → v ≡ start_words w n blockCounts
unfolding start_words
first_words w v n blockCounts q e = rw q e

-- The rest of the contract follows from the words.
all_of : (w v : List ℕ) (n : ℕ) (blockCounts : List ℕ) (r : StartAnswer) → r ≡ (start_outcome_in (length w) n blockCounts).answer → v ≡ start_words w n blockCounts
    → (r ≡ (start_outcome_in (length w) n blockCounts).answer)
    × ((run_of v ≡ (start_outcome_in (length w) n blockCounts).run) × ((v ≡ start_words w n blockCounts) × ((length w ≡ 6464 → Clean v) × (r ≡ Ok tt → StartPromise n blockCounts (run_of v)))))
all_of w v n blockCounts r a e =
    let run = ap run_of e ∙ start_run w n blockCounts in
    (a, (run, (e, ((λ long. rw e (start_clean w n blockCounts long)), λ q. started_promise (length w) n blockCounts (run_of v) run (sym a ∙ q)))))

pub returns-then-many-ne-WORDS : goal.returns-then-many-ne-WORDS
returns-then-many-ne-WORDS c =
    let a = c.args in let z = all_of a.w.now a.w.now a.n a.block_counts.now _ c.answer_of-answer.ensures (untouched_words a.w.now a.n a.block_counts.now c.if-many-ne-WORDS.true) in record { value = z.0; w_after = z.1.0; w_after_2 = z.1.1.0; clean = z.1.1.1.0; start_promise = z.1.1.1.1 }

pub put_started-requires : goal.put_started-requires
put_started-requires c =
    let a = c.args in let f = by_answer (length a.w.now) a.n a.block_counts.now (sym c.answer_of-answer.ensures ∙ c.in-Ok.is) in (c.clear_all.ensures, accepted_few _ a.n a.block_counts.now f, accepted_long _ a.n a.block_counts.now f, accepted_counts _ a.n a.block_counts.now f)

pub shape_of-w-in-Err : goal.shape_of-w-in-Err
shape_of-w-in-Err c =
    c.clear_all.auto.w

pub returns-in-Err : goal.returns-in-Err
returns-in-Err c =
    let a = c.args in let is = sym c.in-Err.is ∙ c.answer_of-answer.ensures in let z = all_of a.w.now _ a.n a.block_counts.now _ is (zero_words a.w.now _ a.n a.block_counts.now _ c.if-many-ne-WORDS.false (by_refused (length a.w.now) a.n a.block_counts.now _ (sym is)) c.clear_all.ensures) in record { value = z.0; w_after = z.1.0; w_after_2 = z.1.1.0; clean = z.1.1.1.0; start_promise = z.1.1.1.1 }

pub shape_of-w-in-Ok : goal.shape_of-w-in-Ok
shape_of-w-in-Ok c =
    c.put_started.auto.w ∙ c.clear_all.auto.w

pub returns-in-Ok : goal.returns-in-Ok
returns-in-Ok c =
    let a = c.args in let is = sym c.in-Ok.is ∙ c.answer_of-answer.ensures in let z = all_of a.w.now _ a.n a.block_counts.now (Ok tt) is (first_words a.w.now _ a.n a.block_counts.now (by_answer (length a.w.now) a.n a.block_counts.now (sym is)) c.put_started.ensures) in record { value = z.0; w_after = z.1.0; w_after_2 = z.1.1.0; clean = z.1.1.1.0; start_promise = z.1.1.1.1 }
