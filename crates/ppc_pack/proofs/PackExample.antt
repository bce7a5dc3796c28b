-- Worked examples: a pack of one parameter with the four functions of it, and one of two parameters with their product.
use Rattle.ppc_pack.proofs.Common.{◌≡◌, ℕ, zero, suc, ◌+◌, ◌-◌, ◌<◌, ◌≤◌, true, false, ◌&&◌, eqb, List, [], ◌∷◌, length, Some, refl, sym, ap, ◌∙◌, subst, inl, inr, arith, Parameter, node_value, value_of, FitsGraph, PackValue, IsPack, IsConf, inits_of}
use Rattle.std.specs.List.{slice_get}
use Rattle.std.proofs.lemmas.Option.{none-some, same_Some}
use Rattle.list_laws.specs.Members.{In}
use Rattle.tl_text.specs.Clean.{IsClean}
use Rattle.tl_text.specs.Lines.{is_bad}
use Rattle.tl_text.specs.Tokens.{is_blank}
use Rattle.aig_core.specs.declared.lit.Lit.{Lit}
use Rattle.aig_core.specs.declared.lit.Pair.{Pair}
use Rattle.aig_core.specs.Aig.{IsLit}
use Rattle.ppc_pack.specs.declared.pack.PackParam.{PackParam}

-- one parameter, which is 1 at the start, and the bits 0, p, not p and 1
abbrev pub one_parameter : PackValue
one_parameter = record {
  params = record { name = 112 ∷ []; init = true } ∷ [];
  graph = record { kinds = Parameter ∷ []; pairs = []; max = 1 };
  bits = record { 0 = 0 } ∷ record { 0 = 2 } ∷ record { 0 = 3 } ∷ record { 0 = 1 } ∷ [];
}

starts_at_1 : inits_of one_parameter.params ≡ true ∷ []
starts_at_1 = refl

-- where p is 1, they are 0, 1, 0 and 1
one_fits : FitsGraph one_parameter.graph (true ∷ []) (false ∷ true ∷ [])
one_fits = record {
  given = refl;
  count = refl;
  constant = refl;
  source = λ n above below. (let e : n ≡ 1 = omega arith in subst (λ m. node_value (false ∷ true ∷ []) m ≡ node_value (true ∷ []) (m - 1)) (sym e) refl);
  node = λ n p is. absurd (none-some p is.is);
}

one_conf : IsConf one_parameter (true ∷ []) (false ∷ true ∷ false ∷ true ∷ [])
one_conf = record { values = false ∷ true ∷ []; fits = one_fits; are = refl }

-- two parameters, and one bit, their product
abbrev pub two_parameters : PackValue
two_parameters = record {
  params = record { name = 112 ∷ []; init = false } ∷ record { name = 113 ∷ []; init = true } ∷ [];
  graph = record { kinds = Parameter ∷ Parameter ∷ []; pairs = record { x = record { 0 = 2 }; y = record { 0 = 4 } } ∷ []; max = 1 };
  bits = record { 0 = 6 } ∷ [];
}

-- where both are 1, so is the bit
two_source : (n : ℕ) → 1 ≤ n → n < 3 → node_value (false ∷ true ∷ true ∷ true ∷ []) n ≡ node_value (true ∷ true ∷ []) (n - 1)
two_source zero above below = absurd (omega arith)
two_source (suc zero) above below = refl
two_source (suc (suc zero)) above below = refl
two_source (suc (suc (suc n))) above below = absurd (omega arith)

two_node : (i : ℕ) (p : Pair) → slice_get two_parameters.graph.pairs i ≡ Some p
    → node_value (false ∷ true ∷ true ∷ true ∷ []) (3 + i) ≡ (value_of (false ∷ true ∷ true ∷ true ∷ []) p.x.0 && value_of (false ∷ true ∷ true ∷ true ∷ []) p.y.0)
two_node zero p at =
    ap (λ (q : Pair). value_of (false ∷ true ∷ true ∷ true ∷ []) q.x.0 && value_of (false ∷ true ∷ true ∷ true ∷ []) q.y.0) (same_Some (record { x = record { 0 = 2 }; y = record { 0 = 4 } }) p at)
two_node (suc i) p at = absurd (none-some p at)

two_fit : FitsGraph two_parameters.graph (true ∷ true ∷ []) (false ∷ true ∷ true ∷ true ∷ [])
two_fit = record {
  given = refl;
  count = refl;
  constant = refl;
  source = two_source;
  node = λ n p is.
      let above : 3 ≤ n = is.above in
      let e : 3 + (n - 3) ≡ n = omega arith in
      subst (λ m. node_value (false ∷ true ∷ true ∷ true ∷ []) m ≡ (value_of (false ∷ true ∷ true ∷ true ∷ []) p.x.0 && value_of (false ∷ true ∷ true ∷ true ∷ []) p.y.0)) e (two_node (n - 3) p is.is);
}

two_conf : IsConf two_parameters (true ∷ true ∷ []) (true ∷ [])
two_conf = record { values = false ∷ true ∷ true ∷ true ∷ []; fits = two_fit; are = refl }

-- p and q are clean names
is_only : (a b : ℕ) → In (a ∷ []) b → b ≡ a
is_only a b (inl e) = e
is_only a b (inr i) = elim i [ ]

letter_clean : (a : ℕ) → is_blank a ≡ false → is_bad a ≡ false → (a ≡ 35 → ⊥) → eqb a 92 ≡ false → IsClean (a ∷ [])
letter_clean a blank bad comment slash = record {
  bytes = record {
    some = omega arith;
    no_blank = λ b i. subst (λ x. is_blank x ≡ false) (sym (is_only a b i)) blank;
    no_bad = λ b i. subst (λ x. is_bad x ≡ false) (sym (is_only a b i)) bad;
    no_comment = λ b i e. comment (sym (is_only a b i) ∙ e);
  };
  no_slash = slash;
}

-- so both are packs
member_of_two : {A : Type 0} (P : A → Type 0) (a b x : A) → P a → P b → In (a ∷ b ∷ []) x → P x
member_of_two P a b x pa pb (inl e) = subst P (sym e) pa
member_of_two P a b x pa pb (inr (inl e)) = subst P (sym e) pb
member_of_two P a b x pa pb (inr (inr i)) = elim i [ ]

member_of_one : {A : Type 0} (P : A → Type 0) (a x : A) → P a → In (a ∷ []) x → P x
member_of_one P a x pa (inl e) = subst P (sym e) pa
member_of_one P a x pa (inr i) = elim i [ ]

p_clean : IsClean (112 ∷ [])
p_clean = letter_clean 112 refl refl (λ e. omega arith) refl

q_clean : IsClean (113 ∷ [])
q_clean = letter_clean 113 refl refl (λ e. omega arith) refl

pub one_parameter_is : IsPack one_parameter.params one_parameter.graph one_parameter.bits
one_parameter_is = record {
  few_params = omega arith;
  short = λ p i. member_of_one (λ (x : PackParam). length x.name ≤ 65535) _ p (omega arith) i;
  clean = λ p i. member_of_one (λ (x : PackParam). IsClean x.name) _ p p_clean i;
  once = (λ i. absurd i, tt);
  kinds = refl;
  few_nodes = omega arith;
  few_bits = omega arith;
  lits = λ l i. four l i;
}
  where
    four : (l : Lit) → In one_parameter.bits l → IsLit one_parameter.graph l.0
    four l (inl e) = subst (λ (x : Lit). IsLit one_parameter.graph x.0) (sym e) (omega arith)
    four l (inr (inl e)) = subst (λ (x : Lit). IsLit one_parameter.graph x.0) (sym e) (omega arith)
    four l (inr (inr i)) = member_of_two (λ (x : Lit). IsLit one_parameter.graph x.0) _ _ l (omega arith) (omega arith) i

differ : (a b : ℕ) → (a ≡ b → ⊥) → a ∷ [] ≡ b ∷ [] → ⊥
differ a b d e = let same : a ≡ b = cc in d same

pub two_parameters_is : IsPack two_parameters.params two_parameters.graph two_parameters.bits
two_parameters_is = record {
  few_params = omega arith;
  short = λ p i. member_of_two (λ (x : PackParam). length x.name ≤ 65535) _ _ p (omega arith) (omega arith) i;
  clean = λ p i. member_of_two (λ (x : PackParam). IsClean x.name) _ _ p p_clean q_clean i;
  once = (λ i. other i, (λ i. absurd i, tt));
  kinds = refl;
  few_nodes = omega arith;
  few_bits = omega arith;
  lits = λ l i. member_of_one (λ (x : Lit). IsLit two_parameters.graph x.0) _ l (omega arith) i;
}
  where
    other : In {A = List ℕ} ((113 ∷ []) ∷ []) (112 ∷ []) → ⊥
    other (inl e) = differ 112 113 (λ n. omega arith) e
    other (inr i) = elim i [ ]
