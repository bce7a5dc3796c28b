-- The pack of a source circuit's LUTs is played as their machine plays it.
use Rattle.cmd_map.proofs.Common.{◌≡◌, ℕ, Bool, List, ◌∷◌, refl, sym, ap, ◌∙◌, subst, inl, inr, Aig, PackValue, IsConf, IsLeastMapping, IsMapped, Job, same_graph, present_bytes, ReplaysMachine, IsStart, Stage, AreSteps}
use Rattle.list_laws.specs.Members.{In}
use Rattle.aig_core.specs.Roots.{roots_of}
use Rattle.cover_pick.specs.declared.rule.Rule.{Rule}
use Rattle.cover_pick.specs.Template.{TemplateValue}
use Rattle.cover_pick.specs.Mapping.{IsMapping}
use Rattle.ppc_file.specs.PackFile.{IsPackFile, AreSame}
use Rattle.bit_fun.specs.PackOf.{BitsMade, IsPackOf}
use Rattle.bit_fun.proofs.PackLemmas.{has_one_pack}
use Rattle.run_text.specs.EventValue.{EventValue, Cycle}
use Rattle.run_core.specs.Events.{MachineValue, event_line, host_line, IsOfHost}
use Rattle.spec_core.specs.Specialiser.{SpecialiserValue}
use Rattle.cmd_stations.specs.declared.source.Source.{Source}
use Rattle.cmd_stations.specs.Tunable.{IsTunable}
use Rattle.machine.specs.Machine.{none, more}
use Rattle.cmd_stations.specs.Host.{IsHostStart, AreHostSteps}
use Rattle.cmd_stations.proofs.ShowLemmas.{pack_inits}
use Rattle.cmd_stations.proofs.ReplayLemmas.{same_packs_replay, same_both, file_same, pack_at}

-- the packs of a source circuit's tables are the same
tunable_same : (rule : Rule) (source : Source) (k : ℕ) (template : TemplateValue) (p q : PackValue) (m : IsMapped rule source k template) → IsLeastMapping m.graph k m.roots template → IsTunable source template p → IsTunable source template q → AreSame p q
tunable_same rule source k template p q mapped least a b =
    let list = source.params.list in
    let here = same_graph source a.one_graph mapped.graph a.graph mapped.roots a.roots mapped.is_graph a.is_graph in
    let there = same_graph source a.one_graph b.graph a.graph b.roots a.roots b.is_graph a.is_graph in
    let other : IsPackOf a.graph template.luts list q = subst (λ (g : Aig). IsPackOf g template.luts list q) there b.pack_is in
    let one = has_one_pack a.graph template.luts list (record {
      k = k;
      roots = roots_of mapped.roots;
      bits = template.bits;
      mapping = subst (λ (g : Aig). IsMapping g k (roots_of mapped.roots) template.luts template.bits) here least.mapping;
    }) in
    let made : a.pack_is.made ≡ other.made = one.only a.pack_is.made other.made a.pack_is.makes other.makes in
    record {
      params = a.pack_is.params_are ∙ sym other.params_are;
      kinds = a.pack_is.kinds ∙ sym other.kinds;
      pairs = a.pack_is.pairs ∙ (ap (λ (m : BitsMade). m.pairs) made ∙ sym other.pairs);
      bits = a.pack_is.bits ∙ (ap (λ (m : BitsMade). m.bits) made ∙ sym other.bits);
    }

-- the host of a machine at the start is one of its pack
machine_host : (job : Job) (m : MachineValue) → IsStart job m → IsHostStart m.host.pack m.host
machine_host job m start =
    let inits = pack_inits start.pack.graph job.template.luts job.source.params.list m.host.pack start.pack.pack_is in
    record {
      pack = refl;
      one_config = start.one_config;
      params = start.params ∙ sym inits;
      config = subst (λ (vs : List Bool). IsConf m.host.pack vs m.host.state.config) (sym inits) start.config;
    }

-- an event of the host has the host's line
line_of_host : (event : EventValue) (m : MachineValue) → IsOfHost event → event_line event m ≡ host_line event m.host
line_of_host (Cycle values) m of_host = absurd of_host
line_of_host event m of_host = refl

-- so a machine plays such events as its host does
host_steps : {old stage : Stage} {events : List EventValue} {lines : List (List ℕ)} → AreSteps old events lines stage → ((event : EventValue) → In events event → IsOfHost event) → AreHostSteps old.machine.host events lines stage.machine.host
host_steps none of_host = none
host_steps (more event line mid (step, line_is) rest) of_host =
    let here = of_host event (inl refl) in
    more event line mid.machine.host (record { of_host = here; played = step.played.host; steady = step.steady }, line_is ∙ line_of_host event mid.machine here) (host_steps rest (λ e i. of_host e (inr i)))

-- and all events that a host plays are such
steps_of_host : {h k : SpecialiserValue} {events : List EventValue} {lines : List (List ℕ)} → AreHostSteps h events lines k → (event : EventValue) → In events event → IsOfHost event
steps_of_host none event i = absurd i
steps_of_host (more first line mid step rest) event (inl is) = subst (λ e. IsOfHost e) (sym is) step.0.of_host
steps_of_host (more first line mid step rest) event (inr i) = steps_of_host rest event i

-- A pack of a source circuit's tables, whose file in version 2 is its own, replays on their machine.
pub replays_machine : (rule : Rule) (source : Source) (k : ℕ) (template : TemplateValue) (pack : PackValue) (m : IsMapped rule source k template) → IsLeastMapping m.graph k m.roots template → IsTunable source template pack → IsPackFile (present_bytes pack) pack → ReplaysMachine source template pack
replays_machine rule source k template pack mapped least tunable file = record {
  file = file;
  lines = λ files name p at has h end events lines here steps script m start ports machine_lines stage come.
      let first : AreSame p pack = file_same (present_bytes pack) p pack (pack_at files name (present_bytes pack) p at has) file in
      let second : AreSame pack m.host.pack = tunable_same rule source k template pack m.host.pack mapped least tunable start.pack in
      (same_packs_replay p m.host.pack (same_both p m.host.pack pack first second)).are h m.host here (machine_host (record { source = source; template = template; events = script }) m start) events lines machine_lines end stage.machine.host
      steps (host_steps come.steps (steps_of_host steps));
}
