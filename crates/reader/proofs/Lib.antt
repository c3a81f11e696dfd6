-- What functions over a held payload come to, for every read and every question.
mod Beside
mod WrittenOut
mod Held
mod LentRead
mod EachRead
mod PassedOn
mod NewThenPassedOn
mod MadeThenLent
mod Questions
mod ContractsSay
mod EveryContract
mod EachMeets
