use Rattle.tlut_cli.proofs.command.read_command.Goals as goal

pub returns-in-None-clause-range : goal.returns-in-None-clause-range
returns-in-None-clause-range c = c.read_other.ensures.range c.args.ports
