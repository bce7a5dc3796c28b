-- What a bank is seen as.
use Rattle.std.specs.Prelude.{ℕ, ◌+◌, ◌-◌, List, [], length, map, take, drop}
use Rattle.tl_io.specs.Port.{PortSeen}
use Rattle.port_bank.specs.declared.bank.PortBank.{PortBank}
use Rattle.port_bank.specs.Bank.{BankSeen}

-- a list of ports in four parts, by how many serve, stand by and failed
abbrev pub in_parts : ℕ → ℕ → ℕ → List PortSeen → BankSeen
in_parts serving spares failed ports = record {
  serving = take serving ports;
  spares = take spares (drop serving ports);
  rest = take (length ports - (serving + spares) - failed) (drop (serving + spares) ports);
  failed = drop (length ports - failed) ports;
}

-- a bank that is made of ports: the first ones serve, the next stand by, and none has failed
abbrev pub made_of : ℕ → ℕ → List PortSeen → BankSeen
made_of serving spares ports = record { serving = take serving ports; spares = take spares (drop serving ports); rest = drop (serving + spares) ports; failed = [] }

abbrev pub bank_seen : {P : Type 0} → (P → PortSeen) → PortBank P → BankSeen
bank_seen seen bank = in_parts bank.serving bank.spares bank.failed (map seen bank.ports.items)
