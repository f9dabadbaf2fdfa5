-- How a query is answered (specification, section 10.4): the checks before 11, then whether the rows that it needs are built, then the rest.
use Rattle.std.specs.Prelude.{ℕ, List, [], ◌∷◌}
use Rattle.answers.specs.Answer.{Answer, answered}
use Rattle.answers.specs.Checks.{first_of}
use Rattle.bssrdf.specs.Checks.{check11}

-- the number of its checks before 11, the rows that it needs, and what it answers once these are built: a value, or the refusal of a check after 11
pub record Question : Type 0 where
  pub order : ℕ
  pub rows : List ℕ
  pub built : Answer

-- its answer on a table with these marks
unfoldable pub posed : List ℕ → Question → Answer
posed marks q = answered (first_of (q.order ∷ check11 marks q.rows ∷ [])) q.built
