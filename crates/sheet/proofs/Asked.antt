-- What a row's number says of its operands and of the walks.
use Rattle.std.proofs.Common.{◌≡◌, ℕ, ◌-◌, ◌≤◌, Bool, true, false, cond, ltb, Some, sym, refl, ap, ◌∙◌, arith}
use Rattle.std.proofs.lemmas.Bool.Decides.{nat_tests}
use Rattle.engine.specs.Marks.{ours}
use Rattle.engine.specs.Satisfied.{quantifier}
use Rattle.logic.specs.FixedPoints.{choosing}
use Rattle.logic.specs.Kinds.{Kind, reach}
use Rattle.logic.specs.Kinds.Kind.{path}
use Rattle.logic.specs.Satisfaction.{sat, sat_path, highest, row_degree}
use Rattle.logic.specs.Sets.{Set}
use Rattle.logic.specs.Walks.{Operator, Quantifier}
use Rattle.sheet.specs.Kinds.{kind_of, operator_of}
use Rattle.model.specs.Meaning.{Meaning}
use Rattle.scale.specs.Grades.{Grades}
use Rattle.scale.specs.declared.reading.Reading.{Reading}

chosen : (b : Bool) → ours b ≡ choosing (quantifier b)
chosen true = refl
chosen false = refl

pub path_kind : (k a : ℕ) → 6 ≤ k → kind_of k a ≡ path (quantifier (ltb k 11)) (operator_of (cond (ltb k 11) (k - 6) (k - 11)))
path_kind k a l = grind (arith, nat_tests)

-- the set that the engine gives is the one that the row asks for
pub path-set : (m : Meaning) (g : Grades) (k : Kind) (l : ℕ) (some : Bool) (o : Operator) (q : Reading) (left right : Set) (f h : ℕ → ℕ) → k ≡ path (quantifier some) o → Some q ≡ g.reading l → left ≡ reach f l → right ≡ reach h l → sat_path m (ours some) o (Some q) left right ≡ sat m g k l f h
path-set m g k l some o q left right f h kind read el er =
    ap (λ w. sat_path m w o (Some q) left right) (chosen some) ∙ ap (λ r. sat_path m (choosing (quantifier some)) o r left right) read
    ∙ ap (λ x. sat_path m (choosing (quantifier some)) o (g.reading l) x right) el ∙ ap (λ x. sat_path m (choosing (quantifier some)) o (g.reading l) (reach f l) x) er
    ∙ ap (λ (c : Kind). sat m g c l f h) (sym kind)

-- a path row's degree is the highest level that it reaches
pub path-degree : (m : Meaning) (g : Grades) (k : Kind) (q : Quantifier) (o : Operator) (n s : ℕ) (f h : ℕ → ℕ) → k ≡ path q o → g.levels ≡ n → highest n (λ l. sat m g k l f h s) ≡ row_degree m g k f h s
path-degree m g k q o n s f h kind e =
    ap (λ n. highest n (λ l. sat m g k l f h s)) (sym e) ∙ ap (λ (c : Kind). highest g.levels (λ l. sat m g c l f h s)) kind
    ∙ ap (λ (c : Kind). row_degree m g c f h s) (sym kind)
