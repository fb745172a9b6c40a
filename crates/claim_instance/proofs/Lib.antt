pub mod WorkedInstance
