-- `library_calls::run_words::fill::put_rows` meets its contract. Assumes nothing.
use Rattle.std.specs.Prelude.{◌≡◌, ◌≤◌}
use Rattle.laws.specs.Basics.{false, [], length, get_or}
use Rattle.laws.specs.{Loops.iter, Search.all_below}
use Rattle.library_calls.specs.{run_words.Fits.row_fits_of, run_words.Filled.rows_filled}
use Rattle.library_calls.proofs.run_words.fill.put_rows.Given as goal

abbrev pub invariant-loop-p : goal.invariant-loop-p
invariant-loop-p l = (l.p ≤ 16) × (length l.w ≡ length l.initial.w)
    × (l.all ≡ all_below l.p (λ q. row_fits_of q l.n (get_or l.vectors q []) (get_or l.pins q []) (get_or l.kept_count q 0) (get_or l.sent q false)))
    × (l.w ≡ iter l.p (rows_filled l.n l.vectors l.pins l.kept_count l.sent) l.initial.w)
