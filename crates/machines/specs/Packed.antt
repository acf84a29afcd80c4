-- Requests and answers as numbers, for callers that have no enums.
-- Assumes nothing.
use Rattle.std.specs.Prelude.{◌∷◌}
use Rattle.laws.specs.Basics.{List, [], ℕ, eqb, pick}
use Rattle.machines.specs.declared.Request as requests
use Rattle.machines.specs.declared.Request.TheVariants as request
use Rattle.machines.specs.declared.Answer as answers
use Rattle.machines.specs.declared.Answer.TheVariants as answer

-- A request is four numbers: its kind; how many bytes it hands out, or asks for at most; the place that these go to; the number of a word.
unfoldable pub packed : requests.Request → List ℕ
packed request.Stop = 0 ∷ 0 ∷ 0 ∷ 0 ∷ []
packed (request.Read at most) = 1 ∷ most ∷ at ∷ 0 ∷ []
packed (request.Write size) = 2 ∷ size ∷ 0 ∷ 0 ∷ []
packed (request.Say size) = 3 ∷ size ∷ 0 ∷ 0 ∷ []
packed (request.Fail size) = 4 ∷ size ∷ 0 ∷ 0 ∷ []
packed request.Count = 5 ∷ 0 ∷ 0 ∷ 0 ∷ []
packed (request.Argument i at most) = 6 ∷ most ∷ at ∷ i ∷ []
packed (request.Open size) = 7 ∷ size ∷ 0 ∷ 0 ∷ []

-- An answer is two: its kind, and a number. Kind 0, and every other, is that of a call that failed.
unfoldable pub unpacked : ℕ → ℕ → answers.Answer
unpacked kind number =
    pick (eqb kind 1) (answer.Bytes number)
    (pick (eqb kind 2) answer.End
    (pick (eqb kind 3) answer.Done
    (pick (eqb kind 4) (answer.Number number)
    answer.Failed)))
