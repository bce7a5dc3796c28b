use Rattle.port_bank.specs.Seen.{bank_seen}
use Rattle.port_bank.proofs.PlayLemmas.{load_holds, plays_places, plays_none, plays_lost, plays_left, plays_cause}
use Rattle.port_bank.proofs.bank.PortBank.load.Goals as goal

pub returns : goal.returns
returns g c =
    let sent = c.send_bits.ensures in
    record {
      plays = sent;
      holds = load_holds c.args.config.now (bank_seen g.P.ConfigPort.port_seen c.args.self.now) _ c.send_bits.result sent;
      none = plays_none _ _ _ _ c.send_bits.result sent;
      places = plays_places _ _ _ _ c.send_bits.result sent;
      lost = plays_lost _ _ _ _ c.send_bits.result sent;
      left = plays_left _ _ _ _ c.send_bits.result sent;
      cause = plays_cause _ _ _ _ c.send_bits.result sent;
    }
