-- What the words of the command line order: what to work on, and how.
--     FileOrigin    the file of a name, or the generated file of a number
--     Order         a job with what is asked for
--     job_in        the job of the words, where they are taken
--     ordered       what they order, with what is asked for
--     ReadsNothing  the words are refused, or a file is generated
--     bytes_of      the bytes of a job, where these were handed out
--     IsReadToEnd, IsPart the job's file was read up to its end, or not so far; for a generated file nothing is read
--     OfTold        a fact about the bytes of the job's file, where they are told
use Rattle.std.specs.Prelude.{ℕ, true, false, List, Option, Some, None, option_map, unwrap_or, codes, IsSomeAnd}
use Rattle.std.specs.Option.{option_map_or}
use Rattle.hs_edge.specs.Count.{Rose}
use Rattle.hs_gen.specs.Cycle.{cycle_file_text}
use Rattle.hs_words.specs.Words.{OptionsData, options_of}
use Rattle.hs_passes.specs.Passing.{Image}
use Rattle.hs_app.specs.Problems.{Asked, asked_of}
use Rattle.hs_front.specs.Outside.{SourceRun, IsUntouched, IsReadFromFront}

pub data FileOrigin : Type 0 where
  read_file : List ℕ → FileOrigin
  generate : ℕ → FileOrigin

pub record Order : Type 0 where
  pub job : FileOrigin
  pub asked : Asked

-- without a file's name, and where none is generated, standard input is read, whose name is `-`
abbrev pub job_of : OptionsData → FileOrigin
job_of o = option_map_or (λ k. generate k) o.cycle (read_file (unwrap_or o.file (codes "-")))

abbrev pub job_in : List (List ℕ) → Option FileOrigin
job_in words = option_map job_of (options_of words)

-- with what each pass makes of a scheme
abbrev pub order_of : List Image → OptionsData → Order
order_of images o = record { job = job_of o; asked = asked_of o.settings images }

abbrev pub ordered : List Image → List (List ℕ) → Option Order
ordered images words = option_map (order_of images) (options_of words)

-- a file is generated, and none is read
abbrev pub IsGenerated : FileOrigin → Type 0
IsGenerated (read_file name) = ⊥
IsGenerated (generate k) = Unit {0}

-- nothing is to be read: the words are refused, or a file is generated
abbrev pub ReadsNothing : Option Order → Type 0
ReadsNothing None = Unit {0}
ReadsNothing (Some order) = IsGenerated order.job

abbrev pub bytes_of : FileOrigin → List ℕ → List ℕ
bytes_of (read_file name) given = given
bytes_of (generate k) given = cycle_file_text k

abbrev pub IsReadToEnd : FileOrigin → SourceRun → Type 0
IsReadToEnd (read_file name) source = IsReadFromFront source true name
IsReadToEnd (generate k) source = IsUntouched source

abbrev pub IsPart : FileOrigin → SourceRun → Type 0
IsPart (read_file name) source = IsReadFromFront source false name
IsPart (generate k) source = ⊥

-- the count of the job's file rose
abbrev pub HasFault : FileOrigin → SourceRun → Type 0
HasFault (read_file name) source = Rose (source.faults name) (source.faults_after name)
HasFault (generate k) source = ⊥

abbrev pub OfTold : FileOrigin → (List ℕ → Option (List ℕ)) → (List ℕ → Type 0) → Type 0
OfTold (read_file name) file P = IsSomeAnd (file name) P
OfTold (generate k) file P = P (cycle_file_text k)
