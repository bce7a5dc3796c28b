use Rattle.bit_fun.proofs.Common.{◌-◌, ◌*◌, Bool, List, length, reverse, Lut, IsBitReady, AreBitsMade, IsGrown}
use Rattle.bit_fun.proofs.template_functions.push_bits.Given as goal

abbrev pub invariant-loop-v : goal.invariant-loop-v
invariant-loop-v l = record {
  made : (luts : List Lut) (kept : List Bool) → IsBitReady l.graph luts kept l.table (reverse l.order) l.fn.pack l.fn.lits → AreBitsMade l.graph luts l.table 1 l.v l.fn.pack l.fn.bits.items l.pack kept l.lits l.bits.items;
  grown : IsGrown l.graph l.fn.pack l.pack ((l.v - 1) * length l.order) l.lits;
}
