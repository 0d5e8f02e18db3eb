use Rattle.hs_scheme.proofs.DemandLemmas.{supported_within, flow_unique, fewer}
use Rattle.hs_scheme.proofs.flow_laws.flow_is_unique.Goals as goal

pub returns : goal.returns
returns c = record {
  unique = λ rules flows others heads rest a b pair. (flow_unique rules flows others heads rest a b pair, flow_unique rules others flows rest heads b a pair);
  within = supported_within;
  fewer = fewer;
}
