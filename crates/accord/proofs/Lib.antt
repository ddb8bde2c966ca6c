-- On the text of every strict form the ordinary reading and the strict one agree.
pub mod Shape
pub mod Bracket
pub mod Num
pub mod Names
pub mod Lists
pub mod Forms
pub mod Cases
pub mod Hole
pub mod Outside
pub mod Inner
pub mod Outer
pub mod Agrees
pub mod Accord
pub mod Table
pub mod Demands
