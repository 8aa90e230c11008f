-- What the degrees of a listing mean: the truth values that the endless walks give.
use Rattle.std.specs.Prelude.{◌≡◌, ℕ, ◌<◌, List, [], ◌∷◌, ◌++◌, drop}
use Rattle.logic.specs.Formulas.{Truth}
use Rattle.model.specs.Meaning.{Meaning}
use Rattle.scale.specs.Grades.{Grades}
use Rattle.grammar.specs.Lawful.{Lawful}
use Rattle.grammar.specs.Scripts.{Script, Question, told}
use Rattle.grammar.specs.Spelling.{Spells}
use Rattle.listing.specs.declared.answers.Answer.{Answer}
use Rattle.listing.specs.Runs.{meaning_of, grades_of}
use Rattle.listing.specs.Writing.{degree_lines}

-- the model and the scale that a script names
abbrev pub model_of : Script → Meaning
model_of s = meaning_of s.source (told s).said

abbrev pub scale_of : Script → Grades
scale_of s = grades_of s.levels

-- each question is answered, at its state, with the truth value that the endless walks from there give its formula
abbrev pub Answered : Meaning → Grades → List Question → List Answer → Type 0
Answered m g [] [] = Unit {0}
Answered m g [] (a ∷ more) = ⊥
Answered m g (q ∷ qs) [] = ⊥
Answered m g (q ∷ qs) (a ∷ more) = (q.state < m.states) × (a.state ≡ q.state) × ((d : ℕ → ℕ) × Truth m g q.formula d × (a.degree ≡ d q.state)) × Answered m g qs more

-- where no refusal is answered, the lines are those of the truth values of the script that the text spells
abbrev pub TrueListing : List ℕ → List ℕ → ℕ → ℕ → List ℕ → Type 0
TrueListing text before written number after =
    number ≡ 0 → (s : Script) → Spells s text → Lawful s →
    (answers : List Answer) × Answered (model_of s) (scale_of s) s.asks answers × (after ≡ degree_lines s.levels 0 answers ++ drop written before)
