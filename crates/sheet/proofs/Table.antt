-- The table of kinds, searched by kind and by number.
use Rattle.std.proofs.Common.{◌≡◌, ◌≢◌, ℕ, ◌-◌, ◌<◌, ◌≤◌, ◌⊎◌, List, [], ◌∷◌, map, length, get_or, Some, None, Option, Bor, sym, refl, ap, ◌∙◌, subst, arith}
use Rattle.std.specs.List.{AllWithin, Contains, HoldsAt, range_with_len}
use Rattle.std.specs.Option.{MatchOption, IsSome, IfSome}
use Rattle.std.proofs.lemmas.List.{get_or-map, length-map}
use Rattle.std.proofs.lemmas.List.FromFn.{get_or-range_with_len}
use Rattle.engine.specs.declared.operator.Operator.TheVariants.{Next, Finally, Globally, Until, Weak}
use Rattle.sheet.specs.Kinds.{number_of, name_of, operands_of, Tells}
use Rattle.sheet.specs.declared.kinds.Kind.{Kind}
use Rattle.sheet.specs.declared.kinds.Kind.TheVariants.{Prop, Or, And, Not, Imp, E, A}
use Rattle.sheet.specs.declared.kinds.KindInfo.{KindInfo}

-- the kinds in the order of their numbers
abbrev pub kinds : List Kind
kinds =
    Prop ∷ Or ∷ And ∷ Not ∷ Imp ∷ E Next ∷ E Finally ∷ E Globally ∷ E Until ∷ E Weak
    ∷ A Next ∷ A Finally ∷ A Globally ∷ A Until ∷ A Weak ∷ []

listed : (k : Kind) → Contains kinds k
listed Prop = (0, omega arith, refl)
listed Or = (1, omega arith, refl)
listed And = (2, omega arith, refl)
listed Not = (3, omega arith, refl)
listed Imp = (4, omega arith, refl)
listed (E Next) = (5, omega arith, refl)
listed (E Finally) = (6, omega arith, refl)
listed (E Globally) = (7, omega arith, refl)
listed (E Until) = (8, omega arith, refl)
listed (E Weak) = (9, omega arith, refl)
listed (A Next) = (10, omega arith, refl)
listed (A Finally) = (11, omega arith, refl)
listed (A Globally) = (12, omega arith, refl)
listed (A Until) = (13, omega arith, refl)
listed (A Weak) = (14, omega arith, refl)

-- the entries of each kind and of each number, and what they tell
pub record Complete (xs : List KindInfo) : Type 0 where
  pub kinds : map (λ x. x.kind) xs ≡ kinds
  pub numbers : map (λ x. x.number) xs ≡ range_with_len 1 15
  pub number : map (λ x. x.number) xs ≡ map (λ x. number_of x.kind) xs
  pub name : map (λ x. x.name.now) xs ≡ map (λ x. name_of (number_of x.kind)) xs
  pub operands : map (λ x. x.operands) xs ≡ map (λ x. operands_of (number_of x.kind)) xs

-- what `find` answers for the first entry with f ≡ b
abbrev pub Found : {B : Type 0} → (KindInfo → B) → B → List KindInfo → Option (Bor KindInfo) → Type 0
Found f b xs r =
    MatchOption r (AllWithin (λ x. f x ≢ b) xs 0 (length xs))
    (λ x. (f x.now ≡ b) × (i : ℕ) × (i < length xs) × HoldsAt (λ y. y ≡ x.now) xs i × AllWithin (λ x. f x ≢ b) xs 0 i)

absent : {B : Type 0} (f : KindInfo → B) (b : B) (xs : List KindInfo) → Contains (map f xs) b → Found f b xs None → ⊥
absent f b [] w h = omega (arith, w.1)
absent f b (y ∷ ys) w h =
    let l : w.0 < length (y ∷ ys) = omega (arith, w.1, length-map (y ∷ ys) f) in
    h w.0 y (omega arith) l (sym (get_or-map f (y ∷ ys) w.0 y b l) ∙ w.2)

same_at : {B : Type 0} (f g : KindInfo → B) (xs : List KindInfo) (i : ℕ) (x : KindInfo) → map f xs ≡ map g xs → i < length xs → get_or xs i x ≡ x → f x ≡ g x
same_at f g xs i x e l h = ap f (sym h) ∙ sym (get_or-map f xs i x (f x) l) ∙ ap (λ ys. get_or ys i (f x)) e ∙ get_or-map g xs i x (f x) l ∙ ap g h

tells : (xs : List KindInfo) (i : ℕ) (x : KindInfo) → Complete xs → i < length xs → get_or xs i x ≡ x → Tells x.kind x
tells xs i x c l h =
    record {
      kind = refl;
      number = same_at _ (λ x. number_of x.kind) xs i x c.number l h;
      name = same_at (λ x. x.name.now) (λ x. name_of (number_of x.kind)) xs i x c.name l h;
      operands = same_at _ (λ x. operands_of (number_of x.kind)) xs i x c.operands l h;
    }

pub found_kind : (xs : List KindInfo) (k : Kind) (r : Option (Bor KindInfo)) → Complete xs → Found (λ x. x.kind) k xs r → IsSome r × IfSome r (λ x. Tells k x.now)
found_kind xs k (Some x) c h = (refl, subst (λ k. Tells k x.now) h.0 (tells xs h.1 x.now c h.2 (h.3 x.now)))
found_kind xs k None c h = absurd (absent (λ x. x.kind) k xs (subst (λ ks. Contains ks k) (sym c.kinds) (listed k)) h)

outside : (n : ℕ) → (1 ≤ n → n ≤ 15 → ⊥) → (n < 1) ⊎ (15 < n)
outside n h = grind arith

pub found_number : (xs : List KindInfo) (n : ℕ) (r : Option (Bor KindInfo)) → Complete xs → Found (λ x. x.number) n xs r → MatchOption r ((n < 1) ⊎ (15 < n)) (λ x. number_of x.now.kind ≡ n)
found_number xs n (Some x) c h = sym (tells xs h.1 x.now c h.2 (h.3 x.now)).number ∙ h.0
found_number xs n None c h =
    outside n (λ a b. absent (λ x. x.number) n xs (subst (λ ns. Contains ns n) (sym c.numbers) (n - 1, omega arith, get_or-range_with_len 1 15 (n - 1) n (omega arith) ∙ omega arith)) h)
