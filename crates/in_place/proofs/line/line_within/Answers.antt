-- `in_place::line::line_within` meets its contract, by whether each process has a member. Assumes nothing.
use Rattle.std.specs.Prelude.{◌≡◌}
use Rattle.laws.specs.Basics.{refl, sym, ◌∙◌, ap, true, false, List, ℕ, arith, sets, rules, not-true, not-false}
use Rattle.model.specs.Refusals.{no_member_of}
use Rattle.words.specs.Layout.{run_of}
use Rattle.words.proofs.ViewSound.{sound_few}
use Rattle.in_place.proofs.{Lining.line_found}
use Rattle.in_place.proofs.line.line_within.Goals as goal

pub returns-then-not-members : goal.returns-then-not-members
returns-then-not-members c =
    let a = c.args in let e : no_member_of (run_of a.w.now) a.failed ≡ true = not-false _ (sym c.members_of-members.ensures.all_value ∙ not-true _ c.if-not-members.true) in rw e (record { value = refl; line_after = refl })

pub write_line-requires : goal.write_line-requires
write_line-requires c =
    (omega (arith, sound_few c.args.w.now c.requires.0, c.requires.1), c.requires.2)

pub returns : goal.returns
returns c =
    let there : no_member_of (run_of c.args.w.now) c.args.failed ≡ false = not-true _ (sym c.members_of-members.ensures.all_value ∙ not-false _ c.if-not-members.false) in
    let found = c.members_of-members.ensures.indexes_value there in let line = line_found c.args.w.now c.requires.0 c.args.n c.requires.1 c.args.failed there _ found in rw there (record { value = refl; line_after = c.write_line.ensures ∙ ap (λ (x : List ℕ). sets c.args.line.now 0 x) line })
