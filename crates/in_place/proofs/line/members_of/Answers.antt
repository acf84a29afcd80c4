-- `in_place::line::members_of` meets its contract, by whether each process has a member. Assumes nothing.
use Rattle.std.specs.Prelude.{◌≡◌}
use Rattle.laws.specs.Basics.{refl, sym, false, false≢true, arith, rules, not-true, not-false}
use Rattle.model.specs.Refusals.{no_member_of}
use Rattle.words.specs.Layout.{run_of}
use Rattle.words.proofs.ViewSound.{sound_words}
use Rattle.in_place.proofs.Lining.{some_own, most_kept_count, all_used, members_missing, members_there, members_found, indexes_found}
use Rattle.in_place.proofs.line.members_of.Goals as goal

pub limits_of-limits-requires : goal.limits_of-limits-requires
limits_of-limits-requires c =
    let k = sound_words c.args.w.now c.requires.0 in (k.size, omega (arith, k.few, c.requires.1), some_own c.args.w.now c.requires.0 c.args.n c.requires.1)

pub find_members-all-requires : goal.find_members-all-requires
find_members-all-requires c =
    let k = sound_words c.args.w.now c.requires.0 in (k.size, omega (arith, k.few, c.requires.1), most_kept_count c.args.w.now c.requires.0 c.args.n c.requires.1, refl)

pub returns-then-not-all : goal.returns-then-not-all
returns-then-not-all c =
    let fails = c.if-not-all.true in let e = members_missing c.args.w.now c.requires.0 c.args.n c.requires.1 c.args.failed _ c.limits_of-limits.ensures _ c.find_members-all.ensures.value fails in rw e (record { all_value = fails; indexes_value = λ h. absurd (false≢true (sym h)) })

pub indexes_of-indexes-requires : goal.indexes_of-indexes-requires
indexes_of-indexes-requires c =
    let there : no_member_of (run_of c.args.w.now) c.args.failed ≡ false = members_there c.args.w.now c.requires.0 c.args.n c.requires.1 c.args.failed _ c.limits_of-limits.ensures _ c.find_members-all.ensures.value c.if-not-all.false in
    let w = c.args.w.now in let n = c.args.n in let k = sound_words w c.requires.0 in (
      k.size,
      omega (arith, k.few, c.requires.1),
      some_own w c.requires.0 n c.requires.1,
      most_kept_count w c.requires.0 n c.requires.1,
      all_used w c.requires.0 n c.requires.1,
      members_found w c.requires.0 n c.requires.1 c.args.failed _ c.limits_of-limits.ensures _ c.find_members-all.ensures.pasts_after there,
    )

pub returns : goal.returns
returns c =
    let there : no_member_of (run_of c.args.w.now) c.args.failed ≡ false = members_there c.args.w.now c.requires.0 c.args.n c.requires.1 c.args.failed _ c.limits_of-limits.ensures _ c.find_members-all.ensures.value c.if-not-all.false in
    let found = indexes_found c.args.w.now c.requires.0 c.args.n c.requires.1 c.args.failed _ c.limits_of-limits.ensures _ c.find_members-all.ensures.pasts_after _ c.indexes_of-indexes.ensures in rw there (record { all_value = c.if-not-all.false; indexes_value = λ h. found })
