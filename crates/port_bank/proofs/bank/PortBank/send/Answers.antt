use Rattle.port_bank.specs.Seen.{bank_seen}
use Rattle.port_bank.proofs.PlayLemmas.{send_keeps, plays_places, plays_none, plays_lost, plays_left, plays_cause}
use Rattle.port_bank.proofs.bank.PortBank.send.Goals as goal

pub returns : goal.returns
returns g c =
    let sent = c.send_writes.ensures in
    record {
      plays = sent;
      keeps = send_keeps c.args.config.now c.args.writes.now (bank_seen g.P.ConfigPort.port_seen c.args.self.now) _ c.send_writes.result c.requires.bits sent;
      none = plays_none _ _ _ _ c.send_writes.result sent;
      places = plays_places _ _ _ _ c.send_writes.result sent;
      lost = plays_lost _ _ _ _ c.send_writes.result sent;
      left = plays_left _ _ _ _ c.send_writes.result sent;
      cause = plays_cause _ _ _ _ c.send_writes.result sent;
    }
