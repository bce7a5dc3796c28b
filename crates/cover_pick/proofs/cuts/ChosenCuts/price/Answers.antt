use Rattle.cover_pick.proofs.Lemmas.{◌≡◌, ◌∙◌, ◌+◌, ◌^◌, ℕ, List, [], length, None, Some, get_or, get_or_from_slice_get, sym, ap, row_at, TABLE_PRICE, price, cut_at_place}
use Rattle.cover_pick.proofs.cuts.ChosenCuts.price.Goals as goal

pub returns-in-None-clause-value : goal.returns-in-None-clause-value
returns-in-None-clause-value c =
    sym (ap price (cut_at_place c.self.inside.rows.now c.self.inside.places.items c.deref.result.now c.args.self.now c.args.n c.place_at.result None c.self.view_is c.deref.ensures.value c.place_at.ensures c.in-None.is))

pub returns-in-Some-clause-value : goal.returns-in-Some-clause-value
returns-in-Some-clause-value c =
    let rows = c.self.inside.rows.now in
    let cut : List ℕ = get_or (row_at rows c.args.n) c.in-Some.place [] in
    let bits : c.table_bits.result ≡ 2 ^ length (get_or (row_at rows c.args.n) c.in-Some.place []) = c.table_bits.ensures.value ∙ ap (λ (ls : List ℕ). 2 ^ length ls) (sym (get_or_from_slice_get (row_at rows c.args.n) c.in-Some.place c.leaves.result.now [] c.leaves.ensures.leaves)) in
    ap (λ b. TABLE_PRICE + b) bits
    ∙ sym (ap price (cut_at_place rows c.self.inside.places.items c.deref.result.now c.args.self.now c.args.n c.place_at.result (Some c.in-Some.place) c.self.view_is c.deref.ensures.value c.place_at.ensures c.in-Some.is))
