-- What a lent reader is asked to read, each as `LentRead` takes it: a field of each width, and bytes, as many as are asked for.
use Rattle.std.proofs.Common.{ℕ, List}
use Rattle.std.specs.Prelude.{Result}
use Rattle.codec.specs.Reading.{place_after, read_u8, read_u16, read_u32, read_u64, read_array}
use Rattle.codec.specs.declared.reader.TooShort.{TooShort}
use Rattle.reader.proofs.LentRead.{Read}

abbrev pub of_u8 : Read
of_u8 = record { Answer = Result ℕ TooShort; after = λ s at. place_after s at 1; read = read_u8 }

abbrev pub of_u16 : Read
of_u16 = record { Answer = Result ℕ TooShort; after = λ s at. place_after s at 2; read = read_u16 }

abbrev pub of_u32 : Read
of_u32 = record { Answer = Result ℕ TooShort; after = λ s at. place_after s at 4; read = read_u32 }

abbrev pub of_u64 : Read
of_u64 = record { Answer = Result ℕ TooShort; after = λ s at. place_after s at 8; read = read_u64 }

abbrev pub of_array : ℕ → Read
of_array n = record { Answer = Result (List ℕ) TooShort; after = λ s at. place_after s at n; read = λ s at. read_array s at n }
