-- The files of the cycles of one and of two states.
use Rattle.std.specs.Prelude.{◌≡◌, refl, codes}
use Rattle.std.specs.Fmt.{digits}
use Rattle.hs_gen.specs.Cycle.{cycle_file_text}

pub one_state : cycle_file_text 1 ≡ codes "%BEGING\nS -> F c.\nF x -> br x (F (a x)).\n%ENDG\n%BEGINA\ns0 br -> s0 s0.\ns0 a -> s0.\n%ENDA\n"
unfolding digits
one_state = refl

pub two_states : cycle_file_text 2 ≡ codes "%BEGING\nS -> F c.\nF x -> br x (F (a x)).\n%ENDG\n%BEGINA\ns0 br -> s0 s0.\ns0 a -> s1.\ns0 c -> .\ns1 br -> s1 s1.\ns1 a -> s0.\n%ENDA\n"
unfolding digits
two_states = refl
