-- The far end.
-- Assumes nothing.
use Rattle.std.specs.Prelude.{◌≡◌, ◌≤◌, ◌<◌}
use Rattle.laws.specs.Basics.{List, Option, None, Some, ℕ, get_or}
use Rattle.model.specs.Words.{most_processes}
use Rattle.theory_patterns.specs.declared.End.{End}
use Rattle.library_judge.specs.declared.pattern.State.{State}
use Rattle.library_judge.specs.decision.Rows.{entry_at}

-- Every row that is reached is there.
abbrev pub Reaching : ℕ → List (Option ℕ) → Type 0
Reaching rows reach = (q row : ℕ) → q < most_processes → get_or reach q None ≡ Some row → row < rows

-- The first process whose least reached row does not know the near end, and that row's own entry.
abbrev pub FarEnd : List State → List (Option ℕ) → ℕ → End → Option End → Type 0
FarEnd states reach n near None = (q row : ℕ) → q < n → get_or reach q None ≡ Some row → near.index.0 < entry_at states row near.process
FarEnd states reach n near (Some e) =
    ((row : ℕ) × (get_or reach e.process None ≡ Some row) × (entry_at states row near.process ≤ near.index.0) × (e.index.0 ≡ entry_at states row e.process))
    × (e.process < n) × ((q row : ℕ) → q < e.process → get_or reach q None ≡ Some row → near.index.0 < entry_at states row near.process)
