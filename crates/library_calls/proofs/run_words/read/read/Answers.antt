-- `library_calls::run_words::read::read` meets its contract. Assumes nothing.
use Rattle.std.specs.Prelude.{◌≡◌, ◌*◌, ◌%◌, ◌≤◌}
use Rattle.laws.specs.Basics.{sym, ◌∙◌, ap, List, arith, length, rules}
use Rattle.model.specs.Shapes.{Pin}
use Rattle.model.specs.declared.{Interval.Interval, Checkpoint.Checkpoint}
use Rattle.words.specs.Layout.{count_of}
use Rattle.words.proofs.View.{fits_size, fits_end, end_most}
use Rattle.library_calls.proofs.{run_words.ReadOut.read_ends}
use Rattle.library_calls.proofs.run_words.Tables.{unused_rows, so_far_step, so_far_keep, so_far_all, kept_some}
use Rattle.library_calls.proofs.run_words.read.read.Goals as goal
use Rattle.library_calls.proofs.run_words.read.read.Goals.{then-used, else-used}

pub bounds-w-0 : goal.bounds-w-0
bounds-w-0 c =
    let sized : length c.args.w.now ≡ 6464 = fits_size c.args.w.now c.requires.fit in
    let e = sized in omega arith

pub vectors_of-requires : goal.vectors_of-requires
vectors_of-requires c =
    let sized : length c.args.w.now ≡ 6464 = fits_size c.args.w.now c.requires.fit in
    let asked : (length c.args.w.now ≡ 6464) × (c.number_of-n.result ≡ count_of c.args.w.now) × (c.number_of-n.result ≤ 16) = (sized, c.number_of-n.ensures, omega (arith, c.number_of-n.ensures, c.requires.few)) in
    asked

pub pins_of-requires : goal.pins_of-requires
pins_of-requires c =
    let sized : length c.args.w.now ≡ 6464 = fits_size c.args.w.now c.requires.fit in
    let asked : (length c.args.w.now ≡ 6464) × (c.number_of-n.result ≡ count_of c.args.w.now) × (c.number_of-n.result ≤ 16) = (sized, c.number_of-n.ensures, omega (arith, c.number_of-n.ensures, c.requires.few)) in
    asked

pub marks_of-sent-requires : goal.marks_of-sent-requires
marks_of-sent-requires c =
    let sized : length c.args.w.now ≡ 6464 = fits_size c.args.w.now c.requires.fit in
    let asked : (length c.args.w.now ≡ 6464) × (c.number_of-n.result ≡ count_of c.args.w.now) × (c.number_of-n.result ≤ 16) = (sized, c.number_of-n.ensures, omega (arith, c.number_of-n.ensures, c.requires.few)) in
    asked

pub kept_count_of-kept_count-requires : goal.kept_count_of-kept_count-requires
kept_count_of-kept_count-requires c =
    let sized : length c.args.w.now ≡ 6464 = fits_size c.args.w.now c.requires.fit in
    let asked : (length c.args.w.now ≡ 6464) × (c.number_of-n.result ≡ count_of c.args.w.now) × (c.number_of-n.result ≤ 16) = (sized, c.number_of-n.ensures, omega (arith, c.number_of-n.ensures, c.requires.few)) in
    asked

pub bounds-w-12 : goal.bounds-w-12
bounds-w-12 c =
    let sized : length c.args.w.now ≡ 6464 = fits_size c.args.w.now c.requires.fit in
    let asked : (length c.args.w.now ≡ 6464) × (c.number_of-n.result ≡ count_of c.args.w.now) × (c.number_of-n.result ≤ 16) = (sized, c.number_of-n.ensures, omega (arith, c.number_of-n.ensures, c.requires.few)) in
    let e = asked.0 in omega arith

pub messages_of-messages-requires : goal.messages_of-messages-requires
messages_of-messages-requires c =
    let sized : length c.args.w.now ≡ 6464 = fits_size c.args.w.now c.requires.fit in
    (sized, c.number_of-end.ensures, omega (arith, c.number_of-end.ensures, end_most c.args.w.now (fits_end c.args.w.now c.requires.fit)))

pub disk_of-disk-requires : goal.disk_of-disk-requires
disk_of-disk-requires c =
    let sized : length c.args.w.now ≡ 6464 = fits_size c.args.w.now c.requires.fit in
    let asked : (length c.args.w.now ≡ 6464) × (c.number_of-n.result ≡ count_of c.args.w.now) × (c.number_of-n.result ≤ 16) = (sized, c.number_of-n.ensures, omega (arith, c.number_of-n.ensures, c.requires.few)) in
    asked.0

pub wide2-last-requires : goal.wide2-last-requires
wide2-last-requires c =
    let sized : length c.args.w.now ≡ 6464 = fits_size c.args.w.now c.requires.fit in
    let asked : (length c.args.w.now ≡ 6464) × (c.number_of-n.result ≡ count_of c.args.w.now) × (c.number_of-n.result ≤ 16) = (sized, c.number_of-n.ensures, omega (arith, c.number_of-n.ensures, c.requires.few)) in
    let e = asked.0 in omega arith

pub bounds-w-1 : goal.bounds-w-1
bounds-w-1 c =
    let sized : length c.args.w.now ≡ 6464 = fits_size c.args.w.now c.requires.fit in
    let asked : (length c.args.w.now ≡ 6464) × (c.number_of-n.result ≡ count_of c.args.w.now) × (c.number_of-n.result ≤ 16) = (sized, c.number_of-n.ensures, omega (arith, c.number_of-n.ensures, c.requires.few)) in
    let e = asked.0 in omega arith

pub overflow_mul-q-end : goal.overflow_mul-q-end
overflow_mul-q-end c =
    let sized : length c.args.w.now ≡ 6464 = fits_size c.args.w.now c.requires.fit in
    let asked : (length c.args.w.now ≡ 6464) × (c.number_of-n.result ≡ count_of c.args.w.now) × (c.number_of-n.result ≤ 16) = (sized, c.number_of-n.ensures, omega (arith, c.number_of-n.ensures, c.requires.few)) in
    let e = asked.2 in omega arith

pub loop-q-init : goal.loop-q-init
loop-q-init c =
    let sized : length c.args.w.now ≡ 6464 = fits_size c.args.w.now c.requires.fit in
    let asked : (length c.args.w.now ≡ 6464) × (c.number_of-n.result ≡ count_of c.args.w.now) × (c.number_of-n.result ≤ 16) = (sized, c.number_of-n.ensures, omega (arith, c.number_of-n.ensures, c.requires.few)) in
    let end = c.number_of-end.result in (search rules, asked.2, unused_rows c.args.w.now _ (end % 16) (omega arith) c.no_checkpoint-none.ensures)

pub is_kept-used-requires : goal.is_kept-used-requires
is_kept-used-requires c =
    let sized : length c.args.w.now ≡ 6464 = fits_size c.args.w.now c.requires.fit in
    let asked : (length c.args.w.now ≡ 6464) × (c.number_of-n.result ≡ count_of c.args.w.now) × (c.number_of-n.result ≤ 16) = (sized, c.number_of-n.ensures, omega (arith, c.number_of-n.ensures, c.requires.few)) in
    (asked.0, search rules, search rules)

pub checkpoint_at-c-requires : goal.checkpoint_at-c-requires
checkpoint_at-c-requires c =
    let sized : length c.args.w.now ≡ 6464 = fits_size c.args.w.now c.requires.fit in
    let used = sym c.is_kept-used.ensures ∙ c.if-used.true in (sized, search rules, search rules, kept_some c.args.w.now _ _ used, c.requires.causes _ _ (omega (arith, c.number_of-n.ensures)) (search rules) used)

pub loop-q-preserved : goal.loop-q-preserved
loop-q-preserved c =
    let l = c.loop-q in let w = c.args.w.now in elim c.if-used.branch [
      | then-used t ↦ (search rules, l.invariant.1, t.table-is ∙ so_far_step w l.q (search rules) l.table _ l.invariant.2 t.checkpoint_at-c.ensures (sym c.is_kept-used.ensures ∙ t.if-used.true))
      | else-used t ↦ (search rules, l.invariant.1, t.table-is ∙ l.invariant.2 ∙ so_far_keep w l.q (search rules) (sym c.is_kept-used.ensures ∙ t.if-used.false))
    ]

pub returns : goal.returns
returns c =
    let l = c.loop-q in let e : l.q ≡ 16 * c.number_of-n.result = omega arith in
    read_ends c.args.w.now c.requires _ _ _ _ _ _ _ _ _ _
    (c.vectors_from-vectors.ensures ∙ ap (λ (r : List (List Interval)). record { 0 = r }) c.vectors_of.ensures)
    (c.pins_from-pins.ensures ∙ ap (λ (r : List (List Pin)). record { 0 = r }) c.pins_of.ensures)
    c.marks_of-sent.ensures
    (c.kept_from-kept.ensures ∙ ap (λ (r : List (List Checkpoint)). record { 0 = r }) (rw e at l.invariant.2 ∙ so_far_all c.args.w.now c.number_of-n.result c.number_of-n.ensures l.invariant.1))
    c.kept_count_of-kept_count.ensures
    c.messages_of-messages.ensures
    c.wide2-last.ensures
    c.disk_of-disk.ensures
    c.number_of-n.ensures
    c.number_of-underway.ensures
