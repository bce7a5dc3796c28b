use Rattle.param_list.proofs.Common.{◌∙◌, sym, refl, ap, subst, inl, inr, In, LineValue}
use Rattle.param_list.proofs.param_line.entry.Goals as goal

pub bytes-requires : goal.bytes-requires
bytes-requires c = c.requires.within c.in-Some.value (subst (λ l. In l c.in-Some.value) (sym c.in-Some.ensures ∙ c.deref.ensures.value ∙ ap (λ (l : LineValue). l.tokens) c.line.view_is) (inr (inl refl)))

pub bytes-requires-2 : goal.bytes-requires-2
bytes-requires-2 c = c.requires.within c.in-Some.name (subst (λ l. In l c.in-Some.name) (sym c.in-Some.ensures ∙ c.deref.ensures.value ∙ ap (λ (l : LineValue). l.tokens) c.line.view_is) (inl refl))
