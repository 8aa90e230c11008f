-- Which texts spell a script.
use Rattle.std.specs.Prelude.{◌≡◌, ℕ, List, [], ◌∷◌, ◌++◌, codes}
use Rattle.logic.specs.Formulas.{Formula}
use Rattle.logic.specs.Formulas.Formula.{prop, unary, binary}
use Rattle.sheet.specs.Kinds.{name_of}
use Rattle.text.specs.declared.script.Source.{Source}
use Rattle.text.specs.declared.script.Source.TheVariants.{Table, Pool}
use Rattle.grammar.specs.Languages.{Language, Then, Word, Each, Gap, Numeral}
use Rattle.grammar.specs.Scripts.{Script, Line, step, holds, Question, number_of, number_of_binary}

-- the closing bracket and the line's end
abbrev pub End : Language
End = Word (41 ∷ 10 ∷ [])

abbrev pub FormulaSpelled : Formula → Language
FormulaSpelled (prop i) = Then (Word (codes "(p")) (Then Gap (Then (Numeral i) (Word (codes ")"))))
FormulaSpelled (unary k f) = Then (Word (codes "(" ++ name_of (number_of k))) (Then Gap (Then (FormulaSpelled f) (Word (codes ")"))))
FormulaSpelled (binary k f h) =
    Then (Word (codes "(" ++ name_of (number_of_binary k))) (Then Gap (Then (FormulaSpelled f) (Then Gap (Then (FormulaSpelled h) (Word (codes ")"))))))

-- a line of a word and two numbers
abbrev pub PairSpelled : List ℕ → ℕ → ℕ → Language
PairSpelled word x y = Then (Word word) (Then Gap (Then (Numeral x) (Then Gap (Then (Numeral y) End))))

abbrev pub SourceSpelled : Source → Language
SourceSpelled (Table n p) = PairSpelled (codes "(table") n p
SourceSpelled (Pool k g) = PairSpelled (codes "(pool") k g

abbrev pub LineSpelled : Line → Language
LineSpelled (step s t) = PairSpelled (codes "(step") s t
LineSpelled (holds p s) = PairSpelled (codes "(holds") p s

-- the lines of a table; a pool has none
abbrev pub LinesSpelled : Source → List Line → Language
LinesSpelled (Table n p) ls w = Each LineSpelled ls w
LinesSpelled (Pool k g) ls w = (ls ≡ []) × (w ≡ [])

abbrev pub AskSpelled : Question → Language
AskSpelled q = Then (Word (codes "(ask")) (Then Gap (Then (Numeral q.state) (Then Gap (Then (FormulaSpelled q.formula) End))))

abbrev pub Spells : Script → Language
Spells s =
    Then (Then (Word (codes "(scale")) (Then Gap (Then (Numeral s.levels) End)))
    (Then (SourceSpelled s.source) (Then (LinesSpelled s.source s.lines) (Each AskSpelled s.asks)))
