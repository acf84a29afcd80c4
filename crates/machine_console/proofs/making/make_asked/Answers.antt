-- `machine_console::making::make_asked` meets its contract. Assumes nothing.
use Rattle.std.specs.Prelude.{◌*◌, ◌≤◌}
use Rattle.laws.specs.Basics.{sym, ◌∙◌, ap, ℕ, arith, replicate, length-take-le, rules}
use Rattle.words.specs.Layout.{run_of}
use Rattle.machine_console.specs.Made.{lent}
use Rattle.machine_console.proofs.{Lists.few, Lists.cut_few, Lists.lent_is}
use Rattle.admissions.proofs.Room.{twice_square}
use Rattle.machine_console.proofs.making.make_asked.Goals as goal

pub overflow_mul-n : goal.overflow_mul-n
overflow_mul-n c =
    let few16 : c.processes-n.result ≤ 16 = omega (arith, c.processes-n.ensures, few (run_of c.args.w.now)) in
    omega (arith, few16)

pub overflow_mul-n-2 : goal.overflow_mul-n-2
overflow_mul-n-2 c =
    let few16 : c.processes-n.result ≤ 16 = omega (arith, c.processes-n.ensures, few (run_of c.args.w.now)) in
    let few512 : 2 * c.processes-n.result * c.processes-n.result ≤ 512 = twice_square c.processes-n.result few16 in
    omega (arith, few512)

pub slice_bounds-pairs-end : goal.slice_bounds-pairs-end
slice_bounds-pairs-end c =
    let few16 : c.processes-n.result ≤ 16 = omega (arith, c.processes-n.ensures, few (run_of c.args.w.now)) in
    let few512 : 2 * c.processes-n.result * c.processes-n.result ≤ 512 = twice_square c.processes-n.result few16 in
    cut_few c.args.c.short _ _ 512 c.cut-room.ensures few512

pub slice_bounds-make_with-end : goal.slice_bounds-make_with-end
slice_bounds-make_with-end c =
    let few16 : c.processes-n.result ≤ 16 = omega (arith, c.processes-n.ensures, few (run_of c.args.w.now)) in
    let few512 : 2 * c.processes-n.result * c.processes-n.result ≤ 512 = twice_square c.processes-n.result few16 in
    let cut = c.cut-room in sym (length-take-le cut.result (replicate 512 0) (cut_few c.args.c.short _ _ 512 cut.ensures few512))

pub slice_bounds-line-end : goal.slice_bounds-line-end
slice_bounds-line-end c =
    let few16 : c.processes-n.result ≤ 16 = omega (arith, c.processes-n.ensures, few (run_of c.args.w.now)) in
    cut_few c.args.c.short _ _ 16 c.cut-members.ensures few16

pub slice_bounds-make_with-end-2 : goal.slice_bounds-make_with-end-2
slice_bounds-make_with-end-2 c =
    let few16 : c.processes-n.result ≤ 16 = omega (arith, c.processes-n.ensures, few (run_of c.args.w.now)) in
    let cut = c.cut-members in sym (length-take-le cut.result (replicate 16 0) (cut_few c.args.c.short _ _ 16 cut.ensures few16))

pub make_with-requires : goal.make_with-requires
make_with-requires c =
    let few16 : c.processes-n.result ≤ 16 = omega (arith, c.processes-n.ensures, few (run_of c.args.w.now)) in
    let few512 : 2 * c.processes-n.result * c.processes-n.result ≤ 512 = twice_square c.processes-n.result few16 in
    let many = c.processes-n.ensures in let short = c.args.c.short in (
      c.requires.0,
      many,
      lent_is short _ 512 _ few512 c.cut-room.ensures ∙ ap (λ (k : ℕ). lent short (2 * k * k)) many,
      lent_is short _ 16 _ few16 c.cut-members.ensures ∙ ap (lent short) many,
      c.requires.1,
    )
