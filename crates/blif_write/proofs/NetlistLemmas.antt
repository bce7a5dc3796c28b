-- The bytes of a netlist and of its LUTs, latches and wires, as they are added, front by front.
use Rattle.blif_write.proofs.Common.{◌≡◌, ℕ, List, [], ◌∷◌, ◌++◌, map, codes, Bool, refl, sym, ap, ◌∙◌, append_assoc, flat_map, flat_map-append, CoverValue, OutPort, FlatValue, Param, TemplateValue, Naming, naming_of, control_names, bit_names, fixed_table, tunable_table, wires, written_latches, specialised_netlist, template_netlist, PlainNetlist, line_text, latch_line, cover_lines, netlist_text, suc, ◌+◌, ◌<◌, ◌≤◌, length, take, get_or, Option, arith, append-nil, length-take, take_more, take_all, map-append, FlatLatch, LatchValue, Lit, literal_name, wire, written_latch, Some, flat_map-map, output_token, words_text, row_line, control_words}

-- the lines of some inputs, latches and covers
abbrev pub inputs_text : List (List (List ℕ)) → List ℕ
inputs_text lists = flat_map line_text (map (λ (names : List (List ℕ)). codes ".inputs" ∷ names) lists)

abbrev pub covers_bytes : List CoverValue → List ℕ
covers_bytes cs = flat_map line_text (flat_map cover_lines cs)

pub whole_netlist : (n : PlainNetlist) (first : List (List ℕ)) (bits : List (List (List ℕ))) (tables wires : List CoverValue) → n.inputs ≡ first ∷ bits → n.covers ≡ tables ++ wires
    → (line_text (codes ".model" ∷ n.name ∷ []) ++ line_text (codes ".inputs" ∷ first)) ++ (inputs_text bits ++ (line_text (codes ".outputs" ∷ n.outputs)
    ++ (flat_map line_text (map latch_line n.latches) ++ (covers_bytes tables ++ (covers_bytes wires ++ codes ".end\n"))))) ≡ netlist_text n
whole_netlist n first bits tables wires i c = grind (arith, codes, covers_bytes, append_assoc, flat_map-append, inputs_text)

-- the two netlists, with the names as they are handed in
abbrev head_of : Naming → FlatValue → List ℕ
head_of g flat = line_text (codes ".model" ∷ flat.model ∷ []) ++ line_text (codes ".inputs" ∷ (g.regular ++ control_names flat.control))

abbrev latches_of : Naming → FlatValue → TemplateValue → List ℕ
latches_of g flat t = flat_map line_text (map latch_line (written_latches g flat.control 0 flat.latches t.next))

abbrev outputs_of : FlatValue → List ℕ
outputs_of flat = line_text (codes ".outputs" ∷ map (λ (o : OutPort). o.name) flat.outputs)

abbrev pub template_bytes : Naming → FlatValue → TemplateValue → List ℕ
template_bytes g flat t =
    head_of g flat ++ (inputs_text (map (bit_names g) t.luts) ++ (outputs_of flat ++ (latches_of g flat t ++ (covers_bytes (map (tunable_table g) t.luts) ++ (covers_bytes (wires g flat.outputs t.outputs) ++ codes ".end\n")))))

abbrev pub specialised_bytes : Naming → FlatValue → TemplateValue → List Bool → List ℕ
specialised_bytes g flat t config =
    head_of g flat ++ (outputs_of flat ++ (latches_of g flat t ++ (covers_bytes (map (fixed_table g config) t.luts) ++ (covers_bytes (wires g flat.outputs t.outputs) ++ codes ".end\n"))))

pub template_is : (g : Naming) (flat : FlatValue) (params : List Param) (t : TemplateValue) → g ≡ naming_of flat params → template_bytes g flat t ≡ netlist_text (template_netlist flat params t)
template_is g flat params t e =
    let h : Naming = naming_of flat params in
    ap (λ (n : Naming). template_bytes n flat t) e
    ∙ whole_netlist (template_netlist flat params t) (h.regular ++ control_names flat.control) (map (bit_names h) t.luts) (map (tunable_table h) t.luts) (wires h flat.outputs t.outputs) refl refl

pub specialised_is : (g : Naming) (flat : FlatValue) (params : List Param) (t : TemplateValue) (config : List Bool) → g ≡ naming_of flat params
    → specialised_bytes g flat t config ≡ netlist_text (specialised_netlist flat params t config)
specialised_is g flat params t config e =
    let h : Naming = naming_of flat params in
    ap (λ (n : Naming). specialised_bytes n flat t config) e
    ∙ whole_netlist (specialised_netlist flat params t config) (h.regular ++ control_names flat.control) [] (map (fixed_table h config) t.luts) (wires h flat.outputs t.outputs) refl refl

wires_split : (g : Naming) (os more : List OutPort) (lits others : List Lit) → length lits ≡ length os → wires g (os ++ more) (lits ++ others) ≡ wires g os lits ++ wires g more others
wires_split g [] more [] others e = refl
wires_split g (o ∷ os) more (lit ∷ lits) others e = grind (arith, append_assoc, wires_split g os more lits others (omega arith))
wires_split g os more lits others e = absurd (omega arith)

-- the bytes of some covers
abbrev pub wires_text : List CoverValue → List ℕ
wires_text cs = flat_map line_text (flat_map cover_lines cs)

joined : (cs ds : List CoverValue) → wires_text cs ++ wires_text ds ≡ wires_text (cs ++ ds)
joined cs ds = sym (ap (flat_map line_text) (flat_map-append cover_lines cs ds) ∙ flat_map-append line_text (flat_map cover_lines cs) (flat_map cover_lines ds))

-- the wires before a place
abbrev pub wires_before : Naming → List OutPort → List Lit → ℕ → List ℕ
wires_before g os lits i = wires_text (wires g (take i os) (take i lits))

same_length : {A B : Type 0} (xs : List A) (ys : List B) (i : ℕ) → length xs ≡ length ys → i < length ys → length (take i xs) ≡ length (take i ys)
same_length xs ys i e h = omega (arith, length-take i xs, length-take i ys)

pub wire_next : (g : Naming) (os : List OutPort) (lits : List Lit) (i : ℕ) (o : OutPort) (lit : Lit) → length lits ≡ length os → i < length os
    → wires_before g os lits i ++ wires_text (wire (literal_name g (get_or lits i lit).0) (get_or os i o).name) ≡ wires_before g os lits (i + 1)
wire_next g os lits i o lit e h =
    joined (wires g (take i os) (take i lits)) _
    ∙ ap (λ (cs : List CoverValue). wires_text (wires g (take i os) (take i lits) ++ cs)) (sym (append-nil _))
    ∙ ap wires_text (sym (wires_split g (take i os) (get_or os i o ∷ []) (take i lits) (get_or lits i lit ∷ []) (same_length lits os i e h)))
    ∙ ap (λ (ps : List OutPort). wires_text (wires g ps (take i lits ++ get_or lits i lit ∷ []))) (sym (take_more os i o h))
    ∙ ap (λ (ls : List Lit). wires_text (wires g (take (i + 1) os) ls)) (sym (take_more lits i lit (omega arith)))

latches_split : (g : Naming) (control : Option (List ℕ)) (from at : ℕ) (ls more : List FlatLatch) (nexts others : List Lit) → length nexts ≡ length ls → at ≡ from + length ls
    → written_latches g control from (ls ++ more) (nexts ++ others) ≡ written_latches g control from ls nexts ++ written_latches g control at more others
latches_split g control from at [] more [] others e a = ap (λ (k : ℕ). written_latches g control k more others) (let d : from ≡ at = omega arith in d)
latches_split g control from at (l ∷ ls) more (next ∷ nexts) others e a = grind (arith, latches_split g control (suc from) at ls more nexts others (omega arith) (omega arith))
latches_split g control from at ls more nexts others e a = absurd (omega arith)

-- the bytes of some latches
abbrev pub latches_text : List LatchValue → List ℕ
latches_text ls = flat_map line_text (map latch_line ls)

joined_latches : (ks ls : List LatchValue) → latches_text ks ++ latches_text ls ≡ latches_text (ks ++ ls)
joined_latches ks ls = sym (ap (flat_map line_text) (map-append latch_line ks ls) ∙ flat_map-append line_text (map latch_line ks) (map latch_line ls))

-- the latches before a place
abbrev pub latches_before : Naming → Option (List ℕ) → List FlatLatch → List Lit → ℕ → List ℕ
latches_before g control ls nexts i = latches_text (written_latches g control 0 (take i ls) (take i nexts))

pub latch_next : (g : Naming) (control : Option (List ℕ)) (ls : List FlatLatch) (nexts : List Lit) (i : ℕ) (l : FlatLatch) (next : Lit) → length nexts ≡ length ls → i < length ls
    → latches_before g control ls nexts i ++ line_text (latch_line (written_latch g control i (get_or ls i l) (get_or nexts i next))) ≡ latches_before g control ls nexts (i + 1)
latch_next g control ls nexts i l next e h =
    let here : LatchValue = written_latch g control i (get_or ls i l) (get_or nexts i next) in
    ap (λ (t : List ℕ). latches_before g control ls nexts i ++ t) (sym (append-nil (line_text (latch_line here))))
    ∙ joined_latches (written_latches g control 0 (take i ls) (take i nexts)) (here ∷ [])
    ∙ ap latches_text (sym (latches_split g control 0 i (take i ls) (get_or ls i l ∷ []) (take i nexts) (get_or nexts i next ∷ []) (same_length nexts ls i e h) (omega (arith, length-take i ls))))
    ∙ ap (λ (ks : List FlatLatch). latches_text (written_latches g control 0 ks (take i nexts ++ get_or nexts i next ∷ []))) (sym (take_more ls i l h))
    ∙ ap (λ (ns : List Lit). latches_text (written_latches g control 0 (take (i + 1) ls) ns)) (sym (take_more nexts i next (omega arith)))

pub wires_whole : (g : Naming) (os : List OutPort) (lits : List Lit) (i : ℕ) → length lits ≡ length os → length os ≤ i → wires_before g os lits i ≡ wires_text (wires g os lits)
wires_whole g os lits i e h = grind (arith, wires_text, take_all)

pub latches_whole : (g : Naming) (control : Option (List ℕ)) (ls : List FlatLatch) (nexts : List Lit) (i : ℕ) → length nexts ≡ length ls → length ls ≤ i
    → latches_before g control ls nexts i ≡ latches_text (written_latches g control 0 ls nexts)
latches_whole g control ls nexts i e h = grind (arith, latches_text, take_all)

-- a line of inputs for each table
pub input_lines : {X : Type 0} (f : X → List (List ℕ)) (xs : List X)
    → flat_map (λ (x : X). line_text (codes ".inputs" ∷ f x)) xs ≡ flat_map line_text (map (λ (bits : List (List ℕ)). codes ".inputs" ∷ bits) (map f xs))
input_lines f xs = grind (arith, flat_map-map, codes)

-- a cover for each table
abbrev pub cover_text : CoverValue → List ℕ
cover_text c = flat_map line_text (cover_lines c)

pub covers_text : (cs : List CoverValue) → flat_map cover_text cs ≡ flat_map line_text (flat_map cover_lines cs)
covers_text [] = refl
covers_text (c ∷ cs) = ap (λ (t : List ℕ). cover_text c ++ t) (covers_text cs) ∙ sym (flat_map-append line_text (cover_lines c) (flat_map cover_lines cs))

pub tables_text : {X : Type 0} (f : X → CoverValue) (xs : List X) → flat_map (λ (x : X). cover_text (f x)) xs ≡ flat_map line_text (flat_map cover_lines (map f xs))
tables_text f xs = sym (flat_map-map cover_text f xs) ∙ covers_text (map f xs)

-- the first line of a cover, as it is added
end_name : (words : List (List ℕ)) (name rest : List ℕ) → words_text words ++ ((32 ∷ (name ++ 10 ∷ [])) ++ rest) ≡ (words_text (words ++ name ∷ []) ++ 10 ∷ []) ++ rest
end_name words name rest = grind (arith, append_assoc, append-nil, flat_map-append)

pub one_list : (c : CoverValue)
    → codes ".names" ++ (words_text c.inputs ++ ((32 ∷ (c.output ++ 10 ∷ [])) ++ flat_map line_text (map (λ row. row_line row.cells) c.rows))) ≡ cover_text c
one_list c = ap (λ (t : List ℕ). codes ".names" ++ t) (end_name c.inputs c.output (flat_map line_text (map (λ row. row_line row.cells) c.rows)))

pub two_lists : (c : CoverValue) (leaves bits : List (List ℕ)) → c.inputs ≡ leaves ++ bits
    → codes ".names" ++ (words_text leaves ++ (words_text bits ++ ((32 ∷ (c.output ++ 10 ∷ [])) ++ flat_map line_text (map (λ row. row_line row.cells) c.rows)))) ≡ cover_text c
two_lists c leaves bits e = grind (arith, codes, append_assoc, flat_map-append, one_list)

-- a latch, as it is added
pub latch_text : (l : LatchValue) → codes ".latch " ++ (l.input ++ (32 ∷ (l.output ++ (words_text (control_words l.control) ++ (32 ∷ (output_token l.init ++ 10 ∷ [])))))) ≡ line_text (latch_line l)
latch_text l = grind (arith, append-nil, append_assoc, flat_map-append, codes)

-- a wire, as it is added
pub wire_text : (root name : List ℕ) → codes ".names " ++ (root ++ ((32 ∷ name) ++ (10 ∷ 49 ∷ 32 ∷ 49 ∷ 10 ∷ [])))
    ≡ flat_map line_text ((codes ".names" ∷ root ∷ name ∷ []) ∷ (codes "1" ∷ codes "1" ∷ []) ∷ [])
wire_text root name = grind (arith, codes, append_assoc, append-nil, end_name)

-- the type and the control of a latch, as they are added
pub clock_text : (control : List ℕ) → codes " re" ++ 32 ∷ control ≡ words_text (control_words (Some control))
clock_text control = ap (λ (t : List ℕ). codes " re " ++ t) (sym (append-nil control))

-- the head of a netlist, as it is added
pub head_text : (model : List ℕ) (regular control : List (List ℕ)) → codes ".model" ++ ((32 ∷ model) ++ ((10 ∷ codes ".inputs") ++ (words_text regular ++ (words_text control ++ 10 ∷ []))))
    ≡ line_text (codes ".model" ∷ model ∷ []) ++ line_text (codes ".inputs" ∷ (regular ++ control))
head_text model regular control = grind (arith, codes, append_assoc, flat_map-append, append-nil)
