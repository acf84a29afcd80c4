-- What nearly every file names, passed on from where it stands: one `use` line has it.
pub use Rattle.std.specs.Prelude.{refl, Bool, true, false, not, List, [], map, ℕ, zero, suc, max, min, eqb, ltb, leb, length, get_or, take, drop, set, replicate}
pub use Rattle.std.proofs.Common.{sym, ◌∙◌, ap, subst, append-nil, append_assoc, inl, inr, arith, length-set, length-append, length-drop, get_or-set_same, get_or-set_other, length-take-le, rules, eq-eqb, ne_eqb, eqb-true, lt-ltb, le-ltb, ltb-true, ltb-false, le-leb, leb-true, leb-false}
pub use Rattle.std.proofs.Math.Path.{fun_ext}
pub use Rattle.std.proofs.lemmas.Bool.{false≢true, eqb-false, lt-leb, not-true, not-false}
pub use Rattle.std.specs.Prelude.{Option, None, Some}
pub use Rattle.std.proofs.lemmas.List.{length-replicate, get_or-replicate}
unfoldable pub use Rattle.std.proofs.Math.Seq.{sets}
pub use Rattle.laws.specs.Choice.{pick, by_bool, by_eq}
