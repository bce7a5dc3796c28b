use Rattle.ppc_file.proofs.Common.{◌≡◌, ℕ, List, [], ◌∷◌, ◌++◌, length, ap, ◌∙◌, w16, PackParam, Version, spelled, bit_byte, param_bytes, added_as, added_twice}
use Rattle.ppc_file.proofs.add_parts.add_param.Goals as goal

-- the parts of a parameter, by its name and its byte
whole : (v : Version) (p : PackParam) (name : List ℕ) (init : ℕ) → name ≡ p.name → init ≡ bit_byte p.init → spelled v w16 (length name) ++ (name ++ init ∷ []) ≡ param_bytes v p
whole v p name init same bit =
    ap (λ (n : List ℕ). spelled v w16 (length n) ++ (n ++ init ∷ [])) same ∙ ap (λ (b : ℕ). spelled v w16 (length p.name) ++ (p.name ++ b ∷ [])) bit

pub returns : goal.returns
returns g c =
    let e = whole c.args.version c.args.param.now c.bytes-name.result.now c.init_byte.result c.bytes-name.ensures c.init_byte.ensures in
    added_as e
    (added_twice c.add_short.ensures
    (added_twice c.add_text.ensures c.add_byte.ensures))
