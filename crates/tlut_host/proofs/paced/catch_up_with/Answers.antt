use Rattle.tlut_host.proofs.paced.catch_up_with.Goals as goal

pub returns : goal.returns
returns g c = λ wanted behind. record {
  writes = c.catch_up.ensures.writes wanted behind;
  config = c.catch_up.ensures.config wanted behind;
  behind = c.catch_up.ensures.behind wanted behind;
  looks = c.catch_up.ensures.looks;
}
