-- The inits of a source circuit that was read: those of its latches, and the values of its parameters.
use Rattle.cmd_stations.proofs.Common.{◌≡◌, Bool, List, length, sym, ap, ◌∙◌, subst, length-map, IsFlat, flat_inits, FlatLatch, Param, param_inits, PackValue, pack_param, Source, IsTunable, TemplateValue, HasOneConf, IsConf, SourceTables, AreMade, IsReadSource, rules, IsSourceStart, AreInits}
use Rattle.lut_sim.specs.Sim.{SimValue}
use Rattle.ppc_pack.specs.Pack as pack
use Rattle.netlist.proofs.EvaluateLemmas.{its_start}
pub use Rattle.netlist.proofs.RunLemmas.{cycle_count}

-- there is an init for each latch
pub init_count : (source : Source) (states : List Bool) → IsFlat source.netlist.library source.netlist.flat → AreInits source.netlist.library states → length states ≡ length source.netlist.flat.latches
init_count source states flat inits = ap length (its_start source.netlist.library source.netlist.flat flat states inits) ∙ length-map source.netlist.flat.latches (λ (l : FlatLatch). l.init)

-- the pack of a source circuit's tables has the parameters of its list
module _ (source : Source) (template : TemplateValue) (pack : PackValue) (tunable : IsTunable source template pack) where
  pub param_count : length pack.params ≡ length source.params.list
  param_count = ap length tunable.pack_is.params_are ∙ length-map source.params.list pack_param

  pub init_params : length (param_inits source.params.list) ≡ length pack.params
  init_params = length-map source.params.list (λ (p : Param). p.init) ∙ sym param_count

-- a machine of a source circuit's tables, as it is made
pub source_starts : (source : Source) (tables : SourceTables) (own : PackValue) (values bits : List Bool) (sim : SimValue) → IsReadSource source → AreMade source tables → ((given : List Bool) → length given ≡ length tables.pack.params → HasOneConf tables.pack given) → own ≡ tables.pack
    → values ≡ pack.inits_of tables.pack.params → IsConf tables.pack (pack.inits_of tables.pack.params) bits → sim.template ≡ tables.template → sim.shape ≡ tables.shape → sim.states ≡ flat_inits source.netlist.flat
    → IsSourceStart source tables.template own values bits sim
source_starts source tables own values bits sim read made one is_pack params config template shape states = search rules
