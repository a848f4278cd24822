use Rattle.mapping.proofs.MappingLaws.{mapping_maps}
use Rattle.mapping.proofs.theorems.mapping_maps.Goals as goal

pub returns : goal.returns
returns c = mapping_maps
