-- Worked examples: multipliers of one digit and of two, and nets of one of three.
use Rattle.gen_case.proofs.Common.{◌≡◌, [], ◌∷◌, ◌++◌, map, codes, refl, Zero, Partial, Sum, Carry, line_text, text_of, below, coefficient_of, data_of}
use Rattle.std.specs.Fmt.{digits}
use Rattle.gen_case.specs.Netlist.{from_before, carry_in, source_of, end_lines, all_partials, all_adders, all_outputs, netlist_lines}
use Rattle.gen_case.specs.Script.{all_params, rounds}

-- words with a blank between each two, and a line feed
two_words : line_text (codes ".model" ∷ codes "mul" ∷ []) ≡ codes ".model mul\n"
two_words = refl

-- the full adder, by its rows
full_adder : text_of end_lines ≡ codes ".end\n.model fa\n.inputs a b c\n.outputs s k\n.names a b c s\n100 1\n010 1\n001 1\n111 1\n.names a b c k\n11- 1\n1-1 1\n-11 1\n.end\n"
full_adder = refl

-- one digit times one digit: one partial product, no row of adders, and a highest digit that is 0
one_digit : text_of (netlist_lines 1) ≡ codes ".model mul\n.inputs x0 c0\n.outputs y0 y1\n.names zero\n.names x0 c0 p0_0\n11 1\n.names p0_0 y0\n1 1\n.names zero y1\n1 1\n.end\n.model fa\n.inputs a b c\n.outputs s k\n.names a b c s\n100 1\n010 1\n001 1\n111 1\n.names a b c k\n11- 1\n1-1 1\n-11 1\n.end\n"
unfolding digits netlist_lines
one_digit = refl

-- two digits times two digits: row 1 adds its partial products to those of row 0
two_partials : text_of (all_partials 2) ≡ codes ".names x0 c0 p0_0\n11 1\n.names x1 c0 p1_0\n11 1\n.names x0 c1 p0_1\n11 1\n.names x1 c1 p1_1\n11 1\n"
unfolding digits
two_partials = refl

two_adders : text_of (all_adders 2) ≡ codes ".subckt fa a=p1_0 b=p0_1 c=zero s=s1_0 k=k1_0\n.subckt fa a=zero b=p1_1 c=k1_0 s=s1_1 k=k1_1\n"
unfolding digits
two_adders = refl

two_outputs : text_of (all_outputs 2) ≡ codes ".names p0_0 y0\n1 1\n.names s1_0 y1\n1 1\n.names s1_1 y2\n1 1\n.names k1_1 y3\n1 1\n"
unfolding digits
two_outputs = refl

two_digits : text_of (netlist_lines 2) ≡ codes ".model mul\n.inputs x0 x1 c0 c1\n.outputs y0 y1 y2 y3\n.names zero\n"
    ++ (text_of (all_partials 2) ++ (text_of (all_adders 2) ++ (text_of (all_outputs 2) ++ text_of end_lines)))
unfolding digits netlist_lines
two_digits = refl

-- three digits: row 2 adds the sum bits of row 1, each one place lower, and at its last place the last carry bit of row 1
three_before : map (from_before 3 2) (below 3) ≡ Sum 1 1 ∷ Sum 1 2 ∷ Carry 1 2 ∷ []
three_before = refl

three_first_before : map (from_before 3 1) (below 3) ≡ Partial 1 0 ∷ Partial 2 0 ∷ Zero ∷ []
three_first_before = refl

three_carries : map (carry_in 2) (below 3) ≡ Zero ∷ Carry 2 0 ∷ Carry 2 1 ∷ []
three_carries = refl

three_sources : map (source_of 3) (below 6) ≡ Partial 0 0 ∷ Sum 1 0 ∷ Sum 2 0 ∷ Sum 2 1 ∷ Sum 2 2 ∷ Carry 2 2 ∷ []
three_sources = refl

-- the digits of 6 modulo 4, the lowest first
two_params : text_of (all_params 2 6) ≡ codes "c0 0\nc1 1\n"
unfolding digits
two_params = refl

-- the numbers are 2 and 0, and then 3 and 1
two_rounds : text_of (rounds 2 1 2) ≡ codes "set c0=0 c1=1\ncycle 00\nset c0=1 c1=1\ncycle 10\n"
unfolding digits rounds
two_rounds = refl

-- with 32 digits: 2654435761 times 2 less 2 ^ 32, and 40503 times 9
second_coefficient : coefficient_of 32 0 2 ≡ 1013904226
second_coefficient = refl

third_data : data_of 32 1 3 ≡ 364528
third_data = refl
