-- Numbers of another interner, from, with those that were found for them here, in I.
--     ImportedData                        the pairs of types, of sets and of environments
--     AreTypes, AreSets, AreEnvs          each pair stands for one type, one set, or one environment
--     AreFound                            all three
use Rattle.std.specs.Prelude.{◌≡◌, List, Contains, slice_get, Some}
use Rattle.hs_types.specs.declared.translations.Translation.{Translation}
use Rattle.hs_types.specs.Interned.{InternerData, type_of_id, set_of_id, env_of_id}

pub record ImportedData : Type 0 where
  pub types : List Translation
  pub sets : List Translation
  pub envs : List Translation

abbrev pub AreTypes : InternerData → InternerData → List Translation → Type 0
AreTypes from I pairs = (p : Translation) → Contains pairs p → slice_get I.types p.own ≡ Some (type_of_id from p.other)

abbrev pub AreSets : InternerData → InternerData → List Translation → Type 0
AreSets from I pairs = (p : Translation) → Contains pairs p → slice_get I.sets p.own ≡ Some (set_of_id from p.other)

abbrev pub AreEnvs : InternerData → InternerData → List Translation → Type 0
AreEnvs from I pairs = (p : Translation) → Contains pairs p → slice_get I.envs p.own ≡ Some (env_of_id from p.other)

pub record AreFound (from I : InternerData) (found : ImportedData) : Type 0 where
  pub types_are : AreTypes from I found.types
  pub sets_are : AreSets from I found.sets
  pub envs_are : AreEnvs from I found.envs
