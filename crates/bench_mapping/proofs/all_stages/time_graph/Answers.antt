use Rattle.std.proofs.Common.{refl}
use Rattle.bench_mapping.proofs.all_stages.time_graph.Goals as goal

pub play_cycles-requires-clause-playable : goal.play_cycles-requires-clause-playable
play_cycles-requires-clause-playable c = c.in-Some.ensures.playable c.in-Some.shape refl
