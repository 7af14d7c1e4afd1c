-- An operator of whose work nothing is said.
use Rattle.apd_driver.specs.Semantics.{Semantics}

abbrev pub idle : Semantics
idle =
    record {
      Work = Unit {0};
      Does = λ old new a told. Unit {0};
      Puts = λ old new line e shard. Unit {0};
      Takes = λ old new reports. Unit {0};
      Sees = λ old new. Unit {0};
      NoneLeft = λ work. Unit {0};
      AllTold = λ counted work. Unit {0};
    }
